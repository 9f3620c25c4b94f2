-- What stands for a block of numbers in the tree of winners.
use Rattle.std.specs.Prelude.{◌≡◌, ℕ, ◌+◌, ◌*◌, ◌-◌, ◌^◌, ◌≤◌, ◌<◌, nat_lt, Bool, true, false, List, length, min}
use Rattle.std.specs.Prelude.{slice_index_or}
use Rattle.lra_timers.specs.declared.deadline.Deadline.{Deadline}
use Rattle.lra_timers.specs.Order.{last, node}
use Rattle.lra_tables.specs.declared.indexed_set.Order.{Order}
use Rattle.lra_tables.specs.declared.indexed_set.Order.TheVariants.{LeastFirst, GreatestFirst}

-- the moment that stands for a number: less for one that comes earlier
abbrev pub key : Order → ℕ → ℕ
key LeastFirst n = n
key GreatestFirst n = 2 ^ 64 - 1 - n

-- whether a deadline is one of a number
abbrev pub is_mark : Deadline → Bool
is_mark d = nat_lt d.number (2 ^ 64 - 1)

-- whether the number at a place is marked, the number 1 at place 0
abbrev pub flag : List Bool → ℕ → Bool
flag flags k = slice_index_or flags k false

-- a deadline is that of a marked number, at a place within bounds
pub record IsReal (order : Order) (flags : List Bool) (start end : ℕ) (d : Deadline) : Type 0 where
  pub place : ℕ
  pub here : flag flags place ≡ true
  pub above : start ≤ place
  pub below : place < end
  pub number : d.number ≡ place + 1
  pub moment : d.moment ≡ key order (place + 1)

-- a deadline is that of the first marked number of those at places within bounds, or the last one where none is marked
pub record IsBest (order : Order) (flags : List Bool) (start end : ℕ) (d : Deadline) : Type 0 where
  pub real : is_mark d ≡ true → IsReal order flags start end d
  pub none : is_mark d ≡ false → d.moment ≡ 2 ^ 64 - 1
  pub least : (k : ℕ) → start ≤ k → k < end → flag flags k ≡ true → d.moment ≤ key order (k + 1)

-- a tree whose leaf at a place has been written
abbrev pub IsWritten : Order → List Bool → ℕ → Deadline → Type 0
IsWritten order flags block d = IsBest order flags (8 * block) (8 * block + 8) d

-- each block of eight numbers has its leaf, and there are no more leaves
pub record AreLeaves (order : Order) (flags : List Bool) (leaves : List Deadline) : Type 0 where
  pub at : (b : ℕ) → b < length leaves → IsWritten order flags b (node leaves b)
  pub wide : length flags ≤ 8 * length leaves
  pub tight : 8 * length leaves < length flags + 8

-- how many more numbers fit, where so many flags do beside those that there are, and so many leaves in all
abbrev pub room_of : ℕ → ℕ → ℕ → ℕ
room_of capacity len leaves = min (capacity - len) (8 * leaves - len)
