use Rattle.std.proofs.Common.{subst, sym}
use Rattle.lra_timers.specs.Planned.{Planned}
use Rattle.lra_schedule.specs.Schedules.{IsScheduleOf}
use Rattle.lra_schedule.proofs.Firsts.{late_is}
use Rattle.lra_schedule.proofs.schedule.Schedule.late.Goals as goal

pub returns : goal.returns
returns c = λ l J is.
    late_is l J c.args.now _ c.first_due.result (subst (λ (s : Planned). IsScheduleOf l s J) (sym c.self.view_is) is)
    c.first_due.ensures.none c.first_due.ensures.first
