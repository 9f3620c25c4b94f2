use Rattle.lra_commands.proofs.Tells.{counters_tell}
use Rattle.lra_commands.proofs.laws.counters_tell.Goals as goal

pub returns : goal.returns
returns c = counters_tell
