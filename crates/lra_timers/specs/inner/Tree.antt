-- A tree of winners in a list: the deadlines from place `width` on, and at each place i from 1 below it the winner of
-- those at 2i and 2i + 1.
use Rattle.std.specs.Prelude.{◌≡◌, ◌⊎◌, ℕ, ◌+◌, ◌*◌, ◌≤◌, ◌<◌, List, length, drop}
use Rattle.lra_timers.specs.declared.deadline.Deadline.{Deadline}
use Rattle.lra_timers.specs.Order.{IsNotAfter, node, last}

-- the one of a and b that isn't after the other
pub record IsWinner (winner a b : Deadline) : Type 0 where
  pub one_of : (winner ≡ a) ⊎ (winner ≡ b)
  pub first : IsNotAfter winner a
  pub second : IsNotAfter winner b

-- the match at a place was won by what stands there
abbrev pub IsWonAt : List Deadline → ℕ → Type 0
IsWonAt nodes at = IsWinner (node nodes at) (node nodes (2 * at)) (node nodes (2 * at + 1))

-- so were all matches
abbrev pub IsWon : List Deadline → ℕ → Type 0
IsWon nodes width = (at : ℕ) → 1 ≤ at → at < width → IsWonAt nodes at

-- the first `len` leaves are deadlines, and the others are free
pub record IsTree (nodes : List Deadline) (width len : ℕ) : Type 0 where
  pub size : length nodes ≡ 2 * width
  pub within : len ≤ width
  pub won : IsWon nodes width
  pub free : (i : ℕ) → len ≤ i → node (drop width nodes) i ≡ last
  pub in_range : (i : ℕ) → IsNotAfter (node (drop width nodes) i) last
