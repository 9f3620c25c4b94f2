use Rattle.lra_schedule.proofs.Renewed.{empty_schedule}
use Rattle.lra_schedule.proofs.schedule.Schedule.new.Goals as goal

pub returns : goal.returns
returns c = λ l. empty_schedule l _ c.new-agenda.ensures.retries c.new-agenda.ensures.limits
