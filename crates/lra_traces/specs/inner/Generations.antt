-- The two generations of a table.
use Rattle.std.specs.Prelude.{◌≡◌, ℕ, Option, Some, IfSome, nat_eq}
use Rattle.std.specs.HashMap.{HashMap, get}
use Rattle.std.specs.declared.hash.FoldHasher.{FoldHasher}
use Rattle.std.specs.declared.hash.BuildHasherDefault.{BuildHasherDefault}
use Rattle.lra_traces.specs.declared.trace_table.Noted.{Noted}

-- traces by action
abbrev pub Generation : Type 0
Generation = HashMap ℕ Noted (BuildHasherDefault FoldHasher)

-- an action's trace in a generation
abbrev pub at : Generation → ℕ → Option Noted
at generation action = get nat_eq generation action

-- it is the same as before, or has left
abbrev pub IsLeft : Option Noted → Option Noted → Type 0
IsLeft before after = IfSome after (λ noted. before ≡ Some noted)
