use Rattle.std.proofs.Common.{◌≤◌, ℕ, List, length}
use Rattle.lra_tables.specs.inner.Ranks.{IsList}
use Rattle.lra_tables.proofs.membership_index.count.Given as goal

abbrev pub invariant-loop-rank : goal.invariant-loop-rank
invariant-loop-rank l = (ns : List ℕ) → IsList l.numbers l.digest ns → l.rank ≤ length ns
