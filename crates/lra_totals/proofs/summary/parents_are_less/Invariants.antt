use Rattle.lra_totals.proofs.Marks.{AreLessTo}
use Rattle.lra_totals.proofs.summary.parents_are_less.Given as goal

abbrev pub invariant-loop-place : goal.invariant-loop-place
invariant-loop-place l = AreLessTo l.actions l.place
