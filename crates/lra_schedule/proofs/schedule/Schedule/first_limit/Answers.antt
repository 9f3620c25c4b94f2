use Rattle.std.proofs.Common.{refl, subst, sym}
use Rattle.std.specs.Prelude.{is_some}
use Rattle.lra_timers.specs.Planned.{Planned}
use Rattle.lra_commands.specs.Due.{late}
use Rattle.lra_schedule.specs.Schedules.{IsScheduleOf, IsFirst}
use Rattle.lra_schedule.proofs.FirstMoment.{limit_none, limit_some}
use Rattle.lra_schedule.proofs.schedule.Schedule.first_limit.Goals as goal

pub returns-in-Some : goal.returns-in-Some
returns-in-Some c = λ l J is stands.
    let held = subst (λ (s : Planned). IsScheduleOf l s J) (sym c.self.view_is) is in
    subst (IsFirst (λ n. is_some (late J n))) (sym (c.limit_of.ensures J stands))
    (limit_some l J _ held c.in-Some.action c.in-Some.ensures.first)

pub returns-in-None : goal.returns-in-None
returns-in-None c = λ l J is stands.
    limit_none l J _ (subst (λ (s : Planned). IsScheduleOf l s J) (sym c.self.view_is) is)
    (c.in-None.ensures.none.0 refl)
