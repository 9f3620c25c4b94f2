-- Output of a service that has ended without a fault.
use Rattle.std.specs.Prelude.{ℕ, List, Option}
use Rattle.std.specs.Io.KnownBytes.{Appends}
use Rattle.lra_opening.specs.Ends.{serving_line, IsRefused}
use Rattle.lra_service.specs.declared.running.ServiceOutcome.{ServiceOutcome}
use Rattle.lra_service.specs.declared.running.ServiceOutcome.TheVariants.{Unsound, Ended}

-- the output: the audit's report if the journal isn't sound, or just the line which reports that the address is served
-- if the service has ended gently
abbrev pub HasSaid : Option (List ℕ) → List ℕ → Option (List ℕ) → Option (List ℕ) → ServiceOutcome → Type 0
HasSaid found address before after (Unsound status) = IsRefused found before after status
HasSaid found address before after Ended = Appends before after (serving_line address)
