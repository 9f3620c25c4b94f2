use Rattle.std.proofs.Common.{◌≡◌, ◌<◌, ℕ, Some}
use Rattle.lra_tables.specs.inner.Ranks.{at}
use Rattle.lra_tables.proofs.membership_index.rank_of.Given as goal

abbrev pub invariant-loop-rank : goal.invariant-loop-rank
invariant-loop-rank l = (i : ℕ) → i < l.rank → at l.numbers l.digest i ≡ Some l.number → ⊥
