use Rattle.std.proofs.Common.{◌≡◌, ◌+◌, ◌++◌, drop, None}
use Rattle.std.specs.Prelude.{unwrap_or}
use Rattle.lra_laws.specs.Rows.{row_at}
use Rattle.lra_totals.specs.Totals.{failed_ends_from}
use Rattle.lra_totals.proofs.summary.failed_ends.Given as goal

abbrev pub invariant-loop-place : goal.invariant-loop-place
invariant-loop-place l = l.ends.items ++ failed_ends_from (λ t. unwrap_or (row_at l.least t) None) (l.place + 1)
    (drop l.place l.actions) ≡ failed_ends_from (λ t. unwrap_or (row_at l.least t) None) 1 l.actions
