use Rattle.lra_commands.proofs.Writers.{counters_write}
use Rattle.lra_commands.proofs.laws.counters_write_once.Goals as goal

pub returns : goal.returns
returns c = counters_write
