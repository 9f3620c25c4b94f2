use Rattle.std.proofs.Common.{◌*◌}
use Rattle.lra_tables.specs.inner.Leaves.{IsBest}
use Rattle.lra_tables.proofs.indexed_set.best_of.Given as goal

abbrev pub invariant-loop-place : goal.invariant-loop-place
invariant-loop-place l = IsBest l.order l.flags (8 * l.block) l.place l.best
