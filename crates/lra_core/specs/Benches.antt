-- A coordinator with the number of a clerk.
use Rattle.std.specs.Prelude.{ℕ}
use Rattle.lra_commands.specs.Counters.{Sight}
use Rattle.lra_core.specs.Shape.{Shape}

-- a coordinator, and the number of the clerk that gives its orders there
pub record Benched : Type 0 where
  pub coordinator : Shape
  pub number : ℕ

-- what is known of it as a counter: all of the history is seen
abbrev pub sight_of : Benched → Sight
sight_of b = record { setting = b.coordinator.setting; number = b.number; seen = b.coordinator.history }
