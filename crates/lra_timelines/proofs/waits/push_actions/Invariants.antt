use Rattle.std.proofs.Common.{◌≡◌, ◌++◌, map, take, string_bytes}
use Rattle.lra_model.specs.History.{History}
use Rattle.lra_laws.specs.Snapshots.{StandsFor}
use Rattle.lra_timelines.specs.Waits.{action_note}
use Rattle.lra_timelines.proofs.waits.push_actions.Given as goal

abbrev pub invariant-loop-place : goal.invariant-loop-place
invariant-loop-place l = (J : History) → StandsFor l.rows.snapshot J
    → map string_bytes l.notes.items ≡ map string_bytes l.fn.notes.items
    ++ map (action_note J l.status) (take l.place l.nested)
