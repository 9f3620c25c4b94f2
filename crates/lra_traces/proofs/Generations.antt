-- What a change of generations leaves.
use Rattle.std.specs.Prelude.{◌≡◌, Option, Some, None, refl}
use Rattle.std.specs.Option.{option_or}
use Rattle.lra_traces.specs.declared.trace_table.Noted.{Noted}
use Rattle.lra_traces.specs.inner.Generations.{IsLeft}

-- a trace of the young generation was the action's trace
pub young_was_first : (young old : Option Noted) → IsLeft (option_or young old) (option_or None young)
young_was_first None old = cc
young_was_first (Some noted) old = refl
