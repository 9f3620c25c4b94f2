use Rattle.std.proofs.Common.{◌≡◌, None, find, take}
use Rattle.lra_model.specs.History.{History}
use Rattle.lra_laws.specs.Snapshots.{StandsFor}
use Rattle.lra_tables.specs.inner.Kept.{staying_with}
use Rattle.lra_tables.specs.inner.Same.{found_same}
use Rattle.lra_tables.proofs.joins.find_joined.Given as goal

abbrev pub invariant-loop-rank : goal.invariant-loop-rank
invariant-loop-rank l = (J : History) → StandsFor l.rows.snapshot J → find (found_same J l.action l.uris)
    (take l.rank (staying_with l.index.key l.digest J)) ≡ None
