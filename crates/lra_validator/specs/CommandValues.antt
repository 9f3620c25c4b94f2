-- A command, whichever way its errand is carried.
use Rattle.lra_commands.specs.declared.command.Command.{Command as CommandOf}
use Rattle.lra_commands.specs.declared.command.Command.TheVariants as command
use Rattle.lra_commands.specs.Errands.{Asking}
use Rattle.lra_commands.specs.Calls.{Command}
use Rattle.lra_validator.specs.declared.errand.Carried.{Carried}

-- what of an errand decides whether its reply may come
abbrev pub carried_of : Asking → Carried
carried_of e = record { ask = e.ask; member = e.member; kind = e.kind; direction = e.direction }

-- a command's value: its errand as what it says
abbrev pub command_value : {E : Type 0} → (E → Asking) → CommandOf E → Command
command_value asking command.Enrol = command.Enrol
command_value asking (command.Start parent limit) = command.Start parent limit
command_value asking (command.Join a uris) = command.Join a uris
command_value asking (command.Leave a p) = command.Leave a p
command_value asking (command.Close a) = command.Close a
command_value asking (command.Cancel a) = command.Cancel a
command_value asking command.Tick = command.Tick
command_value asking command.NextAsk = command.NextAsk
command_value asking (command.Record errand o) = command.Record
    (record { ref_ptr = errand.ref_ptr; now = asking errand.now })
    o
command_value asking (command.Report p e) = command.Report p e
command_value asking command.Restart = command.Restart
command_value asking (command.Renew a limit) = command.Renew a limit
command_value asking (command.Status a) = command.Status a
command_value asking (command.MemberStatus p) = command.MemberStatus p
