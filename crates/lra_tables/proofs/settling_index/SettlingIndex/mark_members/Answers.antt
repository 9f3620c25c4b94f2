use Rattle.std.proofs.Common.{ℕ, ◌+◌, List, ◌++◌, drop, subst}
use Rattle.lra_tables.specs.inner.SettlingIndex.{MarkedBut}
use Rattle.lra_tables.proofs.Marked.{SameRoom-trans, drop_first, drop_past}
use Rattle.lra_tables.proofs.settling_index.SettlingIndex.mark_members.Goals as goal

pub loop-member-preserved : goal.loop-member-preserved
loop-member-preserved c = (
  λ ps xs h. c.mark_member.ensures.marked (drop (c.loop-member.member-index + 1) c.args.members.now ++ ps) xs
      (subst (λ (ns : List ℕ). MarkedBut c.args.rows.now.snapshot.state c.loop-member.self (ns ++ ps) xs)
      (drop_first c.args.members.now c.loop-member.member-index c.loop-member-test.true)
      (c.loop-member.invariant.0 ps xs h)),
  SameRoom-trans _ _ _ c.loop-member.invariant.1 c.mark_member.ensures.room,
)

pub returns-clause-marked : goal.returns-clause-marked
returns-clause-marked c = λ ps xs h.
    subst (λ (ns : List ℕ). MarkedBut c.args.rows.now.snapshot.state c.loop-member.self (ns ++ ps) xs)
    (drop_past c.args.members.now c.loop-member.member-index c.loop-member-test.false)
    (c.loop-member.invariant.0 ps xs h)
