use Rattle.std.proofs.Common.{◌≡◌, ◌+◌, drop, true}
use Rattle.lra_totals.specs.Totals.{of_rows}
use Rattle.lra_totals.proofs.Marks.{IsToFill, IsClosed}
use Rattle.lra_totals.proofs.summary.least_failed.Given as goal

abbrev pub invariant-loop-place : goal.invariant-loop-place
invariant-loop-place l = record {
  to_fill : IsToFill (of_rows l.actions l.members) (l.place + 1) (drop l.place l.members) l.least.items;
  closed : l.are_less ≡ true → IsClosed l.actions l.least.items;
}
