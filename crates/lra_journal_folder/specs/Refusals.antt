-- Output about the journals of a folder that is to be served.
use Rattle.std.specs.Prelude.{◌≡◌, ◌⊎◌, ℕ, List, ◌++◌, codes, Option, None}
use Rattle.std.specs.Io.KnownBytes.{Appends}
use Rattle.lra_audits.specs.declared.fault.RunFault.TheVariants.{Write}
use Rattle.lra_opening.specs.Ends.{IsRefused}
use Rattle.lra_opening.specs.declared.fault.ServeFault.TheVariants.{Run}
use Rattle.lra_rotation.specs.Names.{name_of}
use Rattle.lra_journal_folder.specs.declared.fault.RollingFault.{RollingFault}
use Rattle.lra_journal_folder.specs.declared.fault.RollingFault.TheVariants.{Of, Here, Told}

-- the output if a journal isn't sound: its name, a space and the report of its audit, which finds the whole lines of
-- what was read unsound (this project's choice)
pub record IsRefusedByName (before after : Option (List ℕ)) (status : ℕ) : Type 0 where
  pub instance : ℕ
  pub named : Option (List ℕ)
  pub front : Appends before named (name_of instance ++ codes " ")
  pub refused : IsRefused None named after status

-- a fault of standard output: it can't be written
abbrev pub IsOfOutput : RollingFault → Type 0
IsOfOutput (Here fault) = fault ≡ Run Write
IsOfOutput (Of fault path) = ⊥
IsOfOutput (Told line) = ⊥

-- the output at a fault before an address is served: nothing, unless standard output can't be written
abbrev pub SaysNothing : Option (List ℕ) → Option (List ℕ) → RollingFault → Type 0
SaysNothing before after fault = (after ≡ before) ⊎ IsOfOutput fault
