use Rattle.std.proofs.Common.{◌≡◌, ℕ, Option, None, subst, IfOk}
use Rattle.std.specs.Prelude.{unwrap_or, List}
use Rattle.lra_laws.specs.Rows.{row_at}
use Rattle.lra_totals.specs.declared.totals.FailedEnd.{FailedEnd}
use Rattle.lra_totals.specs.Totals.{failed_ends_from, of_rows}
use Rattle.lra_totals.proofs.Marks.{ends-by-places}
use Rattle.lra_totals.proofs.summary.failed_by.Goals as goal

pub returns : goal.returns
returns c =
    subst (λ (ends : List FailedEnd). IfOk c.failed_ends.result (λ f. f ≡ ends))
    (ends-by-places (of_rows c.args.actions.now c.args.members.now) c.in_ok-least.least.items c.in_ok-least.ensures)
    (subst (λ (ps : List (Option ℕ)). IfOk c.failed_ends.result
    (λ f. f ≡ failed_ends_from (λ t. unwrap_or (row_at ps t) None) 1 c.args.actions.now))
    c.deref.ensures.value c.failed_ends.ensures)
