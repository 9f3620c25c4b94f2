use Rattle.lra_commands.proofs.Keeps.{calls_make}
use Rattle.lra_commands.proofs.laws.commands_make_histories.Goals as goal

pub returns : goal.returns
returns c = calls_make
