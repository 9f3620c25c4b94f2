use Rattle.std.proofs.Common.{◌≡◌, ◌+◌, ◌-◌}
use Rattle.lra_model.specs.History.{History}
use Rattle.lra_laws.specs.Snapshots.{StandsFor}
use Rattle.lra_commands.specs.declared.query.QueryResult.{QueryResult}
use Rattle.lra_commands.specs.Queries.{most_rows}
use Rattle.lra_validator.specs.inner.Walks.{first_some, look}
use Rattle.lra_validator.proofs.walk.first_told.Given as goal

abbrev pub invariant-loop-n : goal.invariant-loop-n
invariant-loop-n l =
    (J : History) (none : QueryResult) → StandsFor l.tables.snapshot J
    → first_some (look l.limits J l.walk) none l.place
    most_rows ≡ first_some (look l.limits J l.walk) none (l.place + l.n) (most_rows - l.n)
