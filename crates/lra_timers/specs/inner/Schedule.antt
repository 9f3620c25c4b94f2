-- How a schedule keeps its moments: a list of deadlines, and the place of each number in it.
use Rattle.std.specs.Prelude.{◌≡◌, ℕ, ◌<◌, List, Some, map, length, nat_eq, refl}
use Rattle.std.specs.Coded.{Coded, code_by, coded×, coded_ℕ}
use Rattle.std.specs.FinMap.{from_entries}
use Rattle.std.specs.HashMap.{HashMap, get}
use Rattle.std.specs.declared.hash.FoldHasher.{FoldHasher}
use Rattle.std.specs.declared.hash.BuildHasherDefault.{BuildHasherDefault}
use Rattle.lra_timers.specs.declared.deadline.Deadline.{Deadline}
use Rattle.lra_timers.specs.Moments.{Moments, moments_code}
use Rattle.lra_timers.specs.Order.{node}

-- moments by number, and how many more numbers fit
pub record Timetable : Type 0 where
  pub moments : Moments
  pub room : ℕ

-- how a schedule is stored in a model
abbrev pub timetable_code : Coded Timetable
timetable_code = code_by (Moments × ℕ) (coded× moments_code coded_ℕ) (λ t. (t.moments, t.room))
    (λ p. record { moments = p.0; room = p.1 }) (λ _. refl)

-- where each number stands
abbrev pub Places : Type 0
Places = HashMap ℕ ℕ (BuildHasherDefault FoldHasher)

-- for each number the moment at its place
abbrev pub moments_at : Places → List Deadline → Moments
moments_at places deadlines = from_entries (map (λ e. (e.0, (node deadlines e.1).moment)) places.entries)

-- each number stands at its place, and each place is that of its number
pub record IsIndex (places : Places) (deadlines : List Deadline) : Type 0 where
  pub within : (number place : ℕ) → get nat_eq places number ≡ Some place → place < length deadlines
  pub found : (number place : ℕ) → get nat_eq places number ≡ Some place → (node deadlines place).number ≡ number
  pub placed : (place : ℕ) → place < length deadlines → get nat_eq places (node deadlines place).number ≡ Some place
