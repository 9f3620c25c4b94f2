-- Output of a service at a fault, as one over a folder has it.
use Rattle.std.proofs.Common.{◌≡◌, ℕ, List, Option, inl, inr, refl}
use Rattle.lra_audits.specs.declared.fault.RunFault.TheVariants.{Read, Write, TooLong, Memory, Changed, Line}
use Rattle.lra_opening.specs.Ends as served
use Rattle.lra_opening.specs.declared.fault.ServeFault.{ServeFault}
use Rattle.lra_opening.specs.declared.fault.ServeFault.TheVariants.{Run, File, Address}
use Rattle.lra_journal_folder.specs.declared.fault.RollingFault.TheVariants.{Here}
use Rattle.lra_folder_service.specs.Outcomes.{IsSaid}

-- it is at most the line of an address that is served, but where standard output can't be written
pub at_fault : (address : List ℕ) (before after : Option (List ℕ)) (fault : ServeFault)
    → served.IsSaid address before after fault → IsSaid address before after (Here fault)
at_fault address before after (Run Read) said = inl (inl said)
at_fault address before after (Run TooLong) said = inl (inl said)
at_fault address before after (Run Changed) said = inl (inl said)
at_fault address before after (Run Memory) said = inl said
at_fault address before after (Run Write) said = inr refl
at_fault address before after (Run (Line number)) said = absurd said
at_fault address before after File said = inl said
at_fault address before after Address said = inl said
