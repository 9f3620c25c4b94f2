use Rattle.std.proofs.Common.{◌≡◌, ◌++◌, length}
use Rattle.std.specs.List.{flat_map}
use Rattle.lra_lines.specs.Lines.{lines_of}
use Rattle.lra_runs.specs.Play.{marked}
use Rattle.lra_runs.proofs.player.marked_lines.Given as goal

-- the lines marked so far and the marks of the rest are those of all lines
abbrev pub invariant-loop-rest : goal.invariant-loop-rest
invariant-loop-rest l = flat_map marked (lines_of l.text) ≡ l.lines.items ++ flat_map marked (lines_of l.rest)

abbrev pub decreases-loop-rest : goal.decreases-loop-rest
decreases-loop-rest l = length l.rest
