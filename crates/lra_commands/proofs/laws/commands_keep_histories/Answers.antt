use Rattle.lra_commands.proofs.Keeps.{calls_keep}
use Rattle.lra_commands.proofs.laws.commands_keep_histories.Goals as goal

pub returns : goal.returns
returns c = calls_keep
