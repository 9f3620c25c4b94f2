use Rattle.std.proofs.Common.{subst, sym}
use Rattle.lra_timers.specs.Planned.{Planned}
use Rattle.lra_schedule.specs.Schedules.{IsScheduleOf}
use Rattle.lra_schedule.proofs.Firsts.{due_is}
use Rattle.lra_schedule.proofs.schedule.Schedule.due.Goals as goal

pub returns : goal.returns
returns c = λ l J is.
    due_is l J c.args.now _ c.next_retry.result (subst (λ (s : Planned). IsScheduleOf l s J) (sym c.self.view_is) is)
    c.next_retry.ensures.none c.next_retry.ensures.first
