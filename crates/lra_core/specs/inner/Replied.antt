-- The reply of a counter to what a coordinator answers.
use Rattle.std.specs.Prelude.{Result, Ok, Err}
use Rattle.lra_commands.specs.declared.command.Told.{Told}
use Rattle.lra_commands.specs.declared.refusal.Refusal.{Refusal}
use Rattle.lra_commands.specs.declared.counter.CounterFault.{CounterFault}
use Rattle.lra_commands.specs.declared.counter.CounterFault.TheVariants.{Refused}

-- what is answered, as a counter replies it
abbrev pub replied : Result Told Refusal → Result Told CounterFault
replied (Ok told) = Ok told
replied (Err r) = Err (Refused r)
