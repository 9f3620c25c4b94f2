-- Which of the numbers 1, 2, .. are marked, and which of the marked ones comes first.
use Rattle.std.specs.Prelude.{◌≡◌, ℕ, zero, suc, ◌≤◌, Bool, true, false, List, slice_index_or}
use Rattle.lra_tables.specs.declared.indexed_set.Order.{Order}
use Rattle.lra_tables.specs.declared.indexed_set.Order.TheVariants.{LeastFirst, GreatestFirst}

-- place k has whether the number k + 1 is marked; and how many more numbers fit
pub record Marking : Type 0 where
  pub order : Order
  pub marked : List Bool
  pub room : ℕ

-- whether a number is marked: numbers are counted from 1, and one that isn't there is not marked
abbrev pub mark_at : List Bool → ℕ → Bool
mark_at marked zero = false
mark_at marked (suc k) = slice_index_or marked k false

-- whether n is no later than m, in an order
abbrev pub IsNoLater : Order → ℕ → ℕ → Type 0
IsNoLater LeastFirst n m = n ≤ m
IsNoLater GreatestFirst n m = m ≤ n

-- a marked number that is no later than any other that is marked
pub record IsFirstMarked (order : Order) (marked : List Bool) (number : ℕ) : Type 0 where
  pub is_marked : mark_at marked number ≡ true
  pub first : (n : ℕ) → mark_at marked n ≡ true → IsNoLater order number n

-- no number is marked
abbrev pub NoneMarked : List Bool → Type 0
NoneMarked marked = (n : ℕ) → mark_at marked n ≡ false
