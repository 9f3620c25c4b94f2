use Rattle.std.proofs.Common.{List, ℕ, ◌++◌, map, take}
use Rattle.lra_model.specs.History.{History}
use Rattle.lra_laws.specs.Snapshots.{StandsFor}
use Rattle.lra_timelines.specs.Drawn.{told_row}
use Rattle.lra_timelines.specs.inner.Draws.{Draws}
use Rattle.lra_timelines.proofs.drawing.put_told.Given as goal

abbrev pub invariant-loop-place : goal.invariant-loop-place
invariant-loop-place l = (J : History) (cs : List (List ℕ)) → StandsFor l.rows.snapshot J → Draws l.fn.drawing cs
    → Draws l.drawing (cs ++ map (told_row J) (take l.place l.told))
