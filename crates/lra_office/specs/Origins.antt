-- What stays the same of an office.
use Rattle.std.specs.Prelude.{ℕ, List, Option}
use Rattle.lra_commands.specs.Counters.{Setting}

-- what an office was made with: what its coordinator keeps, the journal prefix that it goes on from, and what its
-- writer had taken before, where it shows that
pub record Origin : Type 0 where
  pub setting : Setting
  pub front : List ℕ
  pub had : Option (List ℕ)
