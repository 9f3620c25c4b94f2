use Rattle.std.proofs.Common.{◌≡◌, true}
use Rattle.lra_totals.proofs.Marks.{IsLeft, IsClimbing}
use Rattle.lra_totals.proofs.summary.mark_up.Given as goal

abbrev pub invariant-loop-step : goal.invariant-loop-step
invariant-loop-step l = record {
  left : IsLeft l.member l.actions l._step l.action l.fn.action l.initial.least.items l.above l.least.items;
  climbing : l.are_less ≡ true → IsClimbing l.actions l._step l.action l.above l.least.items;
}
