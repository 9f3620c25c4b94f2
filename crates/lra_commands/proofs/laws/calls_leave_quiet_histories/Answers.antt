use Rattle.lra_commands.proofs.Rests.{calls_leave_quiet}
use Rattle.lra_commands.proofs.laws.calls_leave_quiet_histories.Goals as goal

pub returns : goal.returns
returns c = calls_leave_quiet
