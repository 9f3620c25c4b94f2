-- What an index has under a digest.
use Rattle.std.specs.Prelude.{◌≡◌, ℕ, ◌<◌, ◌^◌, ◌==◌, ◌&&◌, cond, List, [], ◌∷◌, length, Option, slice_get, nat_eq}
use Rattle.std.specs.Map.{lookup}

-- an index: the key of its digests, numbers by digest and rank, and for how many more there is room (this project's
-- choice)
pub record Indexed : Type 0 where
  pub key : ℕ
  pub numbers : List ((ℕ × ℕ) × ℕ)
  pub room : ℕ

-- the number of a rank under a digest, counted from 0 (this project's choice)
abbrev pub number_at : Indexed → ℕ → ℕ → Option ℕ
number_at i digest rank = lookup (λ (p : ℕ × ℕ). nat_eq digest p.0 && nat_eq rank p.1) i.numbers

-- these are the numbers under a digest, in the order in which they were added (this project's choice)
abbrev pub IsListed : Indexed → ℕ → List ℕ → Type 0
IsListed i digest ns = (rank : ℕ) → number_at i digest rank ≡ slice_get ns rank

-- there is a list of the numbers under a digest, and a u64 can count them (this project's choice)
abbrev pub IsCounted : Indexed → ℕ → Type 0
IsCounted i digest = (ns : List ℕ) × IsListed i digest ns × (length ns < 2 ^ 64)

-- numbers without the first that equals a given one (this project's choice)
abbrev pub without : ℕ → List ℕ → List ℕ
without n [] = []
without n (m ∷ ms) = cond (m == n) ms (m ∷ without n ms)
