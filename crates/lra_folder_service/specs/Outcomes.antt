-- Output of a service over a folder that has ended.
use Rattle.std.specs.Prelude.{◌⊎◌, ℕ, List, Option, ⊤}
use Rattle.std.specs.Io.KnownBytes.{Appends}
use Rattle.lra_opening.specs.Ends as served
use Rattle.lra_opening.specs.Ends.{serving_line, SaysAtMost}
use Rattle.lra_journal_folder.specs.Refusals.{IsRefusedByName, IsOfOutput}
use Rattle.lra_journal_folder.specs.declared.fault.RollingFault.{RollingFault}
use Rattle.lra_journal_folder.specs.declared.fault.RollingFault.TheVariants.{Of, Here, Told}
use Rattle.lra_folder_service.specs.declared.running.FolderOutcome.{FolderOutcome}
use Rattle.lra_folder_service.specs.declared.running.FolderOutcome.TheVariants.{Unsound, Ended}

-- the output without a fault: the name of a journal that isn't sound and its audit's report, or, if the service has
-- ended gently, just the line which reports that the address is served (this project's choice)
abbrev pub HasSaid : List ℕ → Option (List ℕ) → Option (List ℕ) → FolderOutcome → Type 0
HasSaid address before after (Unsound status path) = IsRefusedByName before after status
HasSaid address before after Ended = Appends before after (serving_line address)

-- the output at a fault: at most the line which reports that the address is served, unless standard output can't be
-- written, whereupon nothing is known
abbrev pub IsSaid : List ℕ → Option (List ℕ) → Option (List ℕ) → RollingFault → Type 0
IsSaid address before after fault = SaysAtMost address before after ⊎ IsOfOutput fault

-- the output of a check that finds a journal unsound: the journal's name and its audit's report
abbrev pub IsRefused : Option (List ℕ) → Option (List ℕ) → FolderOutcome → Type 0
IsRefused before after (Unsound status path) = IsRefusedByName before after status
IsRefused before after Ended = ⊤

-- a fault of an address: the address can't be served, or there was no memory
abbrev pub IsOfAddress : RollingFault → Type 0
IsOfAddress (Here fault) = served.IsOfAddress fault
IsOfAddress (Of fault path) = ⊥
IsOfAddress (Told line) = ⊥
