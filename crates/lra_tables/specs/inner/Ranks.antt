-- Ranks of numbers under a digest.
use Rattle.std.specs.Prelude.{◌≡◌, ℕ, ◌+◌, ◌<◌, ◌^◌, Bool, ◌&&◌, cond, List, length, Option, Some, slice_get, nat_eq}
use Rattle.std.specs.Prelude.{nat_le}
use Rattle.std.specs.HashMap.{HashMap, get}
use Rattle.std.specs.declared.hash.FoldHasher.{FoldHasher}
use Rattle.std.specs.declared.hash.BuildHasherDefault.{BuildHasherDefault}

-- numbers by digest and rank
abbrev pub Numbers : Type 0
Numbers = HashMap (ℕ × ℕ) ℕ (BuildHasherDefault FoldHasher)

-- whether two keys are equal
abbrev pub same_rank : ℕ × ℕ → ℕ × ℕ → Bool
same_rank p q = nat_eq p.0 q.0 && nat_eq p.1 q.1

-- the number at a rank
abbrev pub at : Numbers → ℕ → ℕ → Option ℕ
at m digest rank = get same_rank m (digest, rank)

-- these are the numbers under a digest
abbrev pub IsList : Numbers → ℕ → List ℕ → Type 0
IsList m digest ns = (rank : ℕ) → at m digest rank ≡ slice_get ns rank

-- there is a list of them, and a u64 can count them
abbrev pub IsCountable : Numbers → ℕ → Type 0
IsCountable m digest = (ns : List ℕ) × IsList m digest ns × (length ns < 2 ^ 64)

-- a number is at no rank
abbrev pub IsMissing : Numbers → ℕ → ℕ → Type 0
IsMissing m digest number = (i : ℕ) → at m digest i ≡ Some number → ⊥

-- a number is at a rank and at none before it
pub record IsFirstRank (m : Numbers) (digest number rank : ℕ) : Type 0 where
  pub here : at m digest rank ≡ Some number
  pub first : (i : ℕ) → i < rank → at m digest i ≡ Some number → ⊥

-- the list without what stood at a rank
abbrev pub IsClosed : Numbers → ℕ → ℕ → List ℕ → Type 0
IsClosed m digest rank ns = (i : ℕ) → at m digest i ≡ cond (nat_le rank i) (slice_get ns (i + 1)) (slice_get ns i)
