-- The index of a member.
use Rattle.std.specs.Prelude.{◌≡◌, ◌≢◌, ℕ, zero, suc, List, [], ◌∷◌, Option, Some, None}
use Rattle.lra_journal_sets.specs.JournalSets.{member}

module _ {S : Type 0} (name : S → ℕ) where
  -- the first member with that instance has that index
  abbrev pub StandsAt : ℕ → ℕ → List S → Type 0
  StandsAt i p [] = ⊥
  StandsAt i zero (s ∷ ss) = name s ≡ i
  StandsAt i (suc p) (s ∷ ss) = (name s ≢ i) × StandsAt i p ss

  abbrev pub IsPlace : ℕ → List S → Option ℕ → Type 0
  IsPlace i ss None = member name i ss ≡ None
  IsPlace i ss (Some p) = StandsAt i p ss
