-- What becomes of an input that is given to something piece by piece.
use Rattle.std.specs.Prelude.{◌≤◌, ◌<◌, ◌^◌, ℕ, List, length, Result, Ok, Err, ⊤}
use Rattle.lra_audits.specs.declared.fault.RunFault.{RunFault}
use Rattle.lra_audits.specs.declared.fault.RunFault.TheVariants.{Read, Write, TooLong, Memory, Changed, Line}

-- an input that was taken whole has at most 2^30 bytes, and one that is too long has more
abbrev pub IsCounted : {X : Type 0} → Result X RunFault → List ℕ → Type 0
IsCounted (Ok answer) input = length input ≤ 2 ^ 30
IsCounted (Err TooLong) input = 2 ^ 30 < length input
IsCounted (Err Read) input = ⊤
IsCounted (Err Write) input = ⊤
IsCounted (Err Memory) input = ⊤
IsCounted (Err Changed) input = ⊤
IsCounted (Err (Line number)) input = ⊤
