use Rattle.lra_commands.proofs.Asks.{commands_ask}
use Rattle.lra_commands.proofs.laws.commands_ask.Goals as goal

pub returns : goal.returns
returns c = commands_ask
