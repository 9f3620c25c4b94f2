-- Faults of the files of a folder.
use Rattle.std.specs.Prelude.{◌≡◌, ℕ, List, ◌++◌, codes, string_bytes}
use Rattle.lra_files.specs.declared.faults.FileFault.{FileFault}
use Rattle.lra_files.specs.declared.faults.FileFault.TheVariants as reason
use Rattle.lra_audits.specs.declared.fault.RunFault.TheVariants.{Memory}
use Rattle.lra_opening.specs.declared.fault.ServeFault.{ServeFault}
use Rattle.lra_opening.specs.declared.fault.ServeFault.TheVariants.{Run, File, Address}
use Rattle.lra_journal_folder.specs.declared.fault.RollingFault.{RollingFault}
use Rattle.lra_journal_folder.specs.declared.fault.RollingFault.TheVariants.{Of, Here, Told}

-- the line about a journal that has no room for the entries of a start (this project's choice)
abbrev pub full_line : List ℕ → List ℕ
full_line path = codes "lra: " ++ (path ++ codes " is full\n")

-- the line about a file for which too many others are open (this project's choice)
abbrev pub crowded_line : List ℕ → List ℕ
crowded_line path = codes "lra: too many files are open for " ++ (path ++ codes "\n")

-- the fault of a journal at a path that a start doesn't open: the journal has no room for the start's entries; or its
-- file can't be written; or a fault of the run; each unless there is no memory to name the path
abbrev pub IsOfJournal : ServeFault → List ℕ → RollingFault → Type 0
IsOfJournal Address path (Told line) = string_bytes line ≡ full_line path
IsOfJournal Address path given = given ≡ Here (Run Memory)
IsOfJournal File path (Of fault at) = (fault ≡ File) × (string_bytes at ≡ path)
IsOfJournal File path given = given ≡ Here (Run Memory)
IsOfJournal (Run cause) path given = given ≡ Here (Run cause)

-- the fault of a file at a path, by the system's reason: memory is refused; or too many files are open; or else a fault
-- that is given; the last two unless there is no memory to name the path
abbrev pub IsOfSystem : FileFault → ServeFault → List ℕ → RollingFault → Type 0
IsOfSystem reason.Memory fault path given = given ≡ Here (Run Memory)
IsOfSystem reason.TooManyOpen fault path (Told line) = string_bytes line ≡ crowded_line path
IsOfSystem reason.TooManyOpen fault path given = given ≡ Here (Run Memory)
IsOfSystem reason.Other fault path (Of told at) = (told ≡ fault) × (string_bytes at ≡ path)
IsOfSystem reason.Other fault path given = given ≡ Here (Run Memory)
