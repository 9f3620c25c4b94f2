use Rattle.std.proofs.Common.{◌≡◌, ℕ, List, Option, None, sym, ◌∙◌, ap, arith}
use Rattle.std.specs.Prelude.{is_some, unwrap_or}
use Rattle.lra_laws.specs.Rows.{row_at}
use Rattle.lra_totals.proofs.Marks.{IsLeft-start, IsLeft-up, IsLeft-top, IsLeft-end, IsLeft-met, met_there}
use Rattle.lra_totals.proofs.Marks.{IsOpenAt-met, IsOpenAt-top, IsClimbing-start, IsClimbing-up, IsClimbing-end}
use Rattle.lra_totals.proofs.summary.mark_up.Goals as goal

pub loop-step-init : goal.loop-step-init
loop-step-init c = record {
  left = IsLeft-start c.args.member c.args.actions.now c.args.action c.args.action c.args.least.now.items;
  climbing = λ h. IsClimbing-start c.args.actions.now c.args.action c.args.least.now.items (c.requires.closed h);
}

pub returns-then-is_some-clause-marks : goal.returns-then-is_some-clause-marks
returns-then-is_some-clause-marks c =
    let met = met_there c.loop-step.least.items c.loop-step.above
    (ap (λ (ps : List (Option ℕ)). is_some (unwrap_or (row_at ps c.loop-step.above) None))
    (sym c.deref.ensures.value) ∙ ap is_some (sym c.at.ensures) ∙ sym c.if-is_some.ensures) in
    IsLeft-met c.args.member c.args.actions.now c.loop-step._step c.args.action c.args.action c.args.least.now.items
    c.loop-step.above met.0 c.loop-step.least.items
    c.loop-step.invariant.left met.1 (IsOpenAt-met c.args.actions.now c.loop-step.above met.0 c.loop-step.least.items
    met.1 (c.loop-step.invariant.climbing c.if-are_less.true).open_at)

pub returns-then-is_some-clause-closed : goal.returns-then-is_some-clause-closed
returns-then-is_some-clause-closed c h =
    let met = met_there c.loop-step.least.items c.loop-step.above
    (ap (λ (ps : List (Option ℕ)). is_some (unwrap_or (row_at ps c.loop-step.above) None))
    (sym c.deref.ensures.value) ∙ ap is_some (sym c.at.ensures) ∙ sym c.if-is_some.ensures) in
    IsOpenAt-met c.args.actions.now c.loop-step.above met.0 c.loop-step.least.items met.1
    (c.loop-step.invariant.climbing h).open_at

pub returns-in-None-clause-marks : goal.returns-in-None-clause-marks
returns-in-None-clause-marks c =
    rw c.mark.ensures (IsLeft-top c.args.member c.args.actions.now c.loop-step._step c.args.action c.args.action
    c.args.least.now.items c.loop-step.above c.loop-step.least.items
    c.loop-step.invariant.left c.loop-step-test.true (sym c.parent_of.ensures ∙ c.in-None.is))

pub returns-in-None-clause-closed : goal.returns-in-None-clause-closed
returns-in-None-clause-closed c h =
    rw c.mark.ensures (IsOpenAt-top c.args.member c.args.actions.now c.loop-step.above c.loop-step.least.items
    (sym c.parent_of.ensures ∙ c.in-None.is) (c.loop-step.invariant.climbing h).open_at)

pub loop-step-preserved : goal.loop-step-preserved
loop-step-preserved c =
    rw c.mark.ensures (record {
      left = IsLeft-up c.args.member c.args.actions.now c.loop-step._step c.args.action c.args.action
          c.args.least.now.items c.loop-step.above c.in-Some.parent c.loop-step.least.items
          c.loop-step.invariant.left c.loop-step-test.true (sym c.parent_of.ensures ∙ c.in-Some.is);
      climbing = λ h. IsClimbing-up c.args.member c.args.actions.now c.loop-step._step c.args.action c.loop-step.above
          c.in-Some.parent c.loop-step.least.items
          (c.requires.less h) (sym c.parent_of.ensures ∙ c.in-Some.is) (c.loop-step.invariant.climbing h);
    })

pub returns-clause-marks : goal.returns-clause-marks
returns-clause-marks c =
    let end : c.loop-step._step ≡ c.args.action = omega (arith, c.loop-step.auto._step-end, c.loop-step-test.false) in
    rw c.mark-2.ensures (IsLeft-end c.args.member c.args.actions.now c.loop-step._step c.args.action c.args.action
    c.args.least.now.items c.loop-step.above c.loop-step.least.items
    c.loop-step.invariant.left end)

pub returns-clause-closed : goal.returns-clause-closed
returns-clause-closed c h =
    let end : c.loop-step._step ≡ c.args.action = omega (arith, c.loop-step.auto._step-end, c.loop-step-test.false) in
    rw c.mark-2.ensures (IsClimbing-end c.args.member c.args.actions.now c.loop-step._step c.args.action
    c.loop-step.above c.loop-step.least.items end (c.loop-step.invariant.climbing h))
