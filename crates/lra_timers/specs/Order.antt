-- The order of deadlines: by moment, and at one moment by number.
use Rattle.std.specs.Prelude.{◌≡◌, ℕ, ◌-◌, ◌^◌, ◌≤◌, ◌<◌, List, length, slice_index_or}
use Rattle.lra_timers.specs.declared.deadline.Deadline.{Deadline}

-- a is b, or stands before it
pub record IsNotAfter (a b : Deadline) : Type 0 where
  pub moment : a.moment ≤ b.moment
  pub number : a.moment ≡ b.moment → a.number ≤ b.number

-- nothing is after it
abbrev pub last : Deadline
last = record { moment = 2 ^ 64 - 1; number = 2 ^ 64 - 1 }

-- what stands at a place, and past the end `last`
abbrev pub node : List Deadline → ℕ → Deadline
node nodes at = slice_index_or nodes at last

-- a deadline of the list that is after none of them
pub record IsFirstOf (deadlines : List Deadline) (first : Deadline) : Type 0 where
  pub place : ℕ
  pub within : place < length deadlines
  pub here : node deadlines place ≡ first
  pub least : (i : ℕ) → i < length deadlines → IsNotAfter first (node deadlines i)

-- a list of deadlines, and how many more fit
pub record Entrants : Type 0 where
  pub items : List Deadline
  pub room : ℕ
