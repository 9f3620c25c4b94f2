use Rattle.std.proofs.Common.{refl, subst, sym}
use Rattle.std.specs.Prelude.{is_some}
use Rattle.lra_timers.specs.Planned.{Planned}
use Rattle.lra_commands.specs.Due.{due}
use Rattle.lra_schedule.specs.Schedules.{IsScheduleOf, IsFirst}
use Rattle.lra_schedule.proofs.FirstMoment.{want_none, want_some}
use Rattle.lra_schedule.proofs.schedule.Schedule.first_want.Goals as goal

pub returns-in-Some : goal.returns-in-Some
returns-in-Some c = λ J is stands.
    let l = c.args.limits.now in
    let held = subst (λ (s : Planned). IsScheduleOf l s J) (sym c.self.view_is) is in
    subst (IsFirst (λ n. is_some (due l J n))) (sym (c.retry_of.ensures J stands))
    (want_some l J _ held c.in-Some.member c.in-Some.ensures.first)

pub returns-in-None : goal.returns-in-None
returns-in-None c = λ J is stands.
    let l = c.args.limits.now in
    want_none l J _ (subst (λ (s : Planned). IsScheduleOf l s J) (sym c.self.view_is) is)
    (c.in-None.ensures.none.0 refl)
