-- What is at most so much is at most more, and bounds on the counts of rows stay where a row is replaced.
use Rattle.std.proofs.Common.{◌≡◌, ℕ, ◌≤◌, List, Option, Some, None, sym, subst, inl, inr, IfSome, arith}
use Rattle.std.proofs.lemmas.Bool.{cases_eq}
use Rattle.lra_model.specs.declared.status.ActionStatus.{ActionStatus}
use Rattle.lra_laws.specs.Rows.{ActionRow, row_at}
use Rattle.lra_states.specs.Counts.{CountsTo}
use Rattle.lra_states.specs.inner.Changes.{AllCountTo, with_row}
use Rattle.lra_states.proofs.Replacing.{row_at-with_row_same, row_at-with_row_other}

pub CountsTo-more : (n k : ℕ) (r : ActionRow) → n ≤ k → CountsTo n r → CountsTo k r
CountsTo-more n k r h c = record {
  completing = omega (arith, c.completing);
  compensating = omega (arith, c.compensating);
  uncompleted = omega (arith, c.uncompleted);
  uncompensated = omega (arith, c.uncompensated);
  unended = omega (arith, c.unended);
  uncancelled = omega (arith, c.uncancelled);
  failed = omega (arith, c.failed);
}

pub AllCountTo-more : (n k : ℕ) (rows : List ActionRow) → n ≤ k → AllCountTo n rows → AllCountTo k rows
AllCountTo-more n k rows h all a = by_row (row_at rows a) (all a)
  where
    by_row : (o : Option ActionRow) → IfSome o (CountsTo n) → IfSome o (CountsTo k)
    by_row None c = tt
    by_row (Some r) c = CountsTo-more n k r h c

-- rows whose counts are bounded, and one among them that is replaced by another that is
pub AllCountTo-with_row : (k : ℕ) (rows : List ActionRow) (a : ℕ) (r now : ActionRow) → AllCountTo k rows
    → row_at rows a ≡ Some r → CountsTo k now → AllCountTo k (with_row a now rows)
AllCountTo-with_row k rows a r now all there few n =
    elim (cases_eq n a) [
      | inl same ↦ subst (λ (m : ℕ). IfSome (row_at (with_row a now rows) m) (CountsTo k)) (sym same)
          (rw (row_at-with_row_same a rows r now there) few)
      | inr apart ↦ rw (row_at-with_row_other a rows now n apart) (all n)
    ]

pub CountsTo-status : (k : ℕ) (r : ActionRow) (status : ActionStatus) → CountsTo k r
    → CountsTo k (record r { status = status })
CountsTo-status k r status c = record {
  completing = c.completing;
  compensating = c.compensating;
  uncompleted = c.uncompleted;
  uncompensated = c.uncompensated;
  unended = c.unended;
  uncancelled = c.uncancelled;
  failed = c.failed;
}
