-- A moment for each of some numbers, and which comes first.
use Rattle.std.specs.Prelude.{◌≡◌, ℕ, ◌≤◌, ◌<◌, Some}
use Rattle.std.specs.Ordering.{nat_cmp}
use Rattle.std.specs.FinMap as map
use Rattle.std.specs.Coded.{Coded, coded_ℕ}

-- from numbers to moments
abbrev pub Moments : Type 0
Moments = map.FinMap nat_cmp ℕ

-- how moments by number are stored in a model
abbrev pub moments_code : Coded Moments
moments_code = map.code coded_ℕ coded_ℕ

-- this number's moment has come at `now`, no number's is less, and no lesser number has the same
pub record IsFirstDue (moments : Moments) (now number : ℕ) : Type 0 where
  pub moment : ℕ
  pub has : map.get moments number ≡ Some moment
  pub due : moment ≤ now
  pub least : (other other_moment : ℕ) → map.get moments other ≡ Some other_moment → (moment ≤ other_moment)
      × (moment ≡ other_moment → number ≤ other)

-- no number's moment has come at `now`
abbrev pub NoneDue : Moments → ℕ → Type 0
NoneDue moments now = (number moment : ℕ) → map.get moments number ≡ Some moment → now < moment
