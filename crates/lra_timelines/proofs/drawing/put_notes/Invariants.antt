use Rattle.std.proofs.Common.{List, ℕ, ◌++◌, map, take, string_bytes}
use Rattle.std.specs.List.{flat_map}
use Rattle.lra_timelines.specs.Drawn.{note_rows}
use Rattle.lra_timelines.specs.inner.Draws.{Draws}
use Rattle.lra_timelines.proofs.drawing.put_notes.Given as goal

abbrev pub invariant-loop-place : goal.invariant-loop-place
invariant-loop-place l = (cs : List (List ℕ)) → Draws l.fn.drawing cs → Draws l.drawing
    (cs ++ flat_map note_rows (map string_bytes (take l.place l.notes)))
