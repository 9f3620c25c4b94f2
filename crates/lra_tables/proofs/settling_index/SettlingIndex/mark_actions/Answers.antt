use Rattle.std.proofs.Common.{ℕ, ◌+◌, List, ◌++◌, drop, subst}
use Rattle.lra_tables.specs.inner.SettlingIndex.{MarkedBut}
use Rattle.lra_tables.proofs.Marked.{SameRoom-trans, drop_first, drop_past}
use Rattle.lra_tables.proofs.settling_index.SettlingIndex.mark_actions.Goals as goal

pub loop-action-preserved : goal.loop-action-preserved
loop-action-preserved c = (
  λ ps xs h. c.mark_action.ensures.marked ps (drop (c.loop-action.action-index + 1) c.args.actions.now ++ xs)
      (subst (λ (ns : List ℕ). MarkedBut c.args.rows.now.snapshot.state c.loop-action.self ps (ns ++ xs))
      (drop_first c.args.actions.now c.loop-action.action-index c.loop-action-test.true)
      (c.loop-action.invariant.0 ps xs h)),
  SameRoom-trans _ _ _ c.loop-action.invariant.1 c.mark_action.ensures.room,
)

pub returns-clause-marked : goal.returns-clause-marked
returns-clause-marked c = λ ps xs h.
    subst (λ (ns : List ℕ). MarkedBut c.args.rows.now.snapshot.state c.loop-action.self ps (ns ++ xs))
    (drop_past c.args.actions.now c.loop-action.action-index c.loop-action-test.false)
    (c.loop-action.invariant.0 ps xs h)
