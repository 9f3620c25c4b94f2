-- How a command is given, by private functions.
use Rattle.std.specs.Prelude.{◌≡◌, ◌≢◌, ℕ, Result, Ok, Err}
use Rattle.lra_commands.specs.declared.command.Command.TheVariants.{Enrol}
use Rattle.lra_commands.specs.declared.counter.CounterFault.{CounterFault}
use Rattle.lra_commands.specs.declared.counter.CounterFault.TheVariants as counter
use Rattle.lra_commands.specs.Calls.{Call, Command}
use Rattle.lra_commands.specs.Counters.{Setting}
use Rattle.lra_core.specs.declared.block.Committed.{Committed}
use Rattle.lra_ticket.specs.declared.lock.TryFault.{TryFault}
use Rattle.lra_ticket.specs.declared.lock.TryFault.TheVariants as trial
use Rattle.lra_ticket.specs.declared.view.View.{View}
use Rattle.lra_office.specs.declared.fault.OfficeRefusal.{OfficeRefusal}
use Rattle.lra_office.specs.declared.fault.OfficeRefusal.TheVariants as office
use Rattle.lra_office.specs.declared.fault.TryRefusal.{TryRefusal}
use Rattle.lra_office.specs.declared.fault.TryRefusal.TheVariants as tried
use Rattle.lra_office.specs.Orders.{IsGrown, IsNotGiven}

-- a call that was given
abbrev pub IsGiven : {O : Type 0} → Setting → View O → Call → Result Committed OfficeRefusal → View O → Type 0
IsGiven g v c (Ok r) w = IsGrown g v c r.told r.errand w
IsGiven g v c (Err r) w = IsNotGiven g v c r w

-- the pass of an enrolment has no number yet; every other command is given under the number of its pass
abbrev pub IsNumberOf : Command → ℕ → ℕ → Type 0
IsNumberOf Enrol by number = number ≡ 0
IsNumberOf c by number = (by ≡ number) × (number ≢ 0)

-- a fault of the lock, as one of a command that doesn't wait
abbrev pub refusal_of : TryFault → TryRefusal
refusal_of trial.Busy = tried.Busy
refusal_of trial.Worn = tried.Worn

-- why an order isn't done, as a counter says it
abbrev pub fault_of : OfficeRefusal → CounterFault
fault_of (office.Refused r) = counter.Refused r
fault_of office.Worn = counter.Worn
