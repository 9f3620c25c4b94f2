use Rattle.lra_commands.proofs.Asks.{rows_hold_ends}
use Rattle.lra_commands.proofs.laws.rows_hold_ends.Goals as goal

pub returns : goal.returns
returns c = rows_hold_ends
