use Rattle.std.proofs.Common.{ℕ, ◌∷◌, [], sym, subst, arith}
use Rattle.lra_tables.specs.inner.SettlingIndex.{MarkedBut}
use Rattle.lra_tables.proofs.Marked.{action_absent, in_none, action_found}
use Rattle.lra_tables.proofs.settling_index.SettlingIndex.mark_with_action.Goals as goal

pub returns-in-Some-clause-marked : goal.returns-in-Some-clause-marked
returns-in-Some-clause-marked c = λ K h m.
    let looked = c.mark_member.ensures.marked [] _ m in
    c.mark_action.ensures.marked [] []
    (subst (λ (a : ℕ). MarkedBut c.args.rows.now.snapshot.state c.mark_member.new.self [] (a ∷ []))
    (sym (action_found K c.args.member c.in-Some.row (c.in-Some.ensures K h))) looked)

pub returns-in_default-clause-marked : goal.returns-in_default-clause-marked
returns-in_default-clause-marked c = λ K h m.
    let looked = c.mark_member.ensures.marked [] _ m in
    action_absent c.args.rows.now.snapshot.state c.mark_member.new.self 0 (λ some. absurd (omega arith)) [] []
    (subst (λ (a : ℕ). MarkedBut c.args.rows.now.snapshot.state c.mark_member.new.self [] (a ∷ []))
    (in_none c.args.rows.now.snapshot K h c.args.member (c.in_default.ensures K h)) looked)
