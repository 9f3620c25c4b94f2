use Rattle.lra_commands.proofs.Asks.{queries_miss}
use Rattle.lra_commands.proofs.laws.queries_miss.Goals as goal

pub returns : goal.returns
returns c = queries_miss
