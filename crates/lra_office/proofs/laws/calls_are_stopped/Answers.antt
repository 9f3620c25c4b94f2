use Rattle.lra_office.proofs.Stopped.{calls_stopped}
use Rattle.lra_office.proofs.laws.calls_are_stopped.Goals as goal

pub returns : goal.returns
returns c = calls_stopped
