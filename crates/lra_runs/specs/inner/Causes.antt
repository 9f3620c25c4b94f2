-- The faults that the play of a script may have.
use Rattle.std.specs.Prelude.{⊤}
use Rattle.lra_audits.specs.declared.fault.RunFault.{RunFault}
use Rattle.lra_audits.specs.declared.fault.RunFault.TheVariants.{Read, Write, TooLong, Memory, Changed, Line}

-- a fault that the play of a script may have after the script was read
abbrev pub IsOfPlay : RunFault → Type 0
IsOfPlay Write = ⊤
IsOfPlay Memory = ⊤
IsOfPlay (Line number) = ⊤
IsOfPlay Read = ⊥
IsOfPlay TooLong = ⊥
IsOfPlay Changed = ⊥
