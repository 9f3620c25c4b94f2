-- The traces that are kept, by the numbers of actions' UUIDs.
use Rattle.std.specs.Prelude.{ℕ, List, Option, Some, None, option_map, if◌then◌else◌, nat_lt}
use Rattle.std.specs.Option.{option_or}
use Rattle.lra_traces.specs.declared.trace_table.Noted.{Noted}
use Rattle.lra_traces.specs.declared.trace_table.TraceTable.{TraceTable}
use Rattle.lra_traces.specs.inner.Generations.{at}

-- the trace of an action: that of the young generation, or else that of the old one
abbrev pub noted_at : TraceTable → ℕ → Option Noted
noted_at table action = option_or (at table.young action) (at table.aged action)

-- the text of an action's trace
abbrev pub traceparent_at : TraceTable → ℕ → Option (List ℕ)
traceparent_at table action = option_map (λ noted. noted.traceparent) (noted_at table action)

-- the one that was noted last
abbrev pub latest : Option Noted → Option Noted → Option Noted
latest None parent = parent
latest (Some own) None = Some own
latest (Some own) (Some parent) = if nat_lt own.number parent.number then Some parent else Some own
