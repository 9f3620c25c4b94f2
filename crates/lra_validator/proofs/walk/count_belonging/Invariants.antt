use Rattle.std.proofs.Common.{◌≡◌, ◌+◌, ◌≤◌}
use Rattle.lra_model.specs.History.{History}
use Rattle.lra_laws.specs.Snapshots.{StandsFor}
use Rattle.lra_validator.proofs.Walks.{left_of}
use Rattle.lra_validator.proofs.walk.count_belonging.Given as goal

abbrev pub invariant-loop-n : goal.invariant-loop-n
invariant-loop-n l =
    (l.count ≤ l.n) × ((J : History) → StandsFor l.tables.snapshot J → l.count + left_of l.limits J l.listing l.place
    l.n
    ≡ left_of l.limits J l.listing l.place 0)
