use Rattle.std.proofs.Common.{ℕ, List, ◌++◌, [], Option, ◌∙◌, sym, subst, append-nil}
use Rattle.std.specs.Prelude.{option_to_list}
use Rattle.lra_model.specs.Actions.{children, members_of}
use Rattle.lra_tables.specs.inner.SettlingIndex.{MarkedBut}
use Rattle.lra_tables.proofs.settling_index.SettlingIndex.mark_around.Goals as goal

pub returns-clause-marked : goal.returns-clause-marked
returns-clause-marked c = λ K h m.
    let s = c.args.rows.now.snapshot.state in
    let inside = members_of K c.args.action in
    let itself = c.mark_action.ensures.marked inside _ m in
    let above = c.mark_any.ensures.marked inside (children K c.args.action)
    (subst (λ (o : Option ℕ). MarkedBut s c.mark_action.new.self inside
    (option_to_list o ++ children K c.args.action)) (sym (c.parent_of.ensures K h)) itself) in
    let below = c.mark_actions.ensures.marked inside []
    (subst (λ (ns : List ℕ). MarkedBut s c.mark_any.new.self inside ns)
    (sym (append-nil c.children.result.now ∙ c.children.ensures K h)) above) in
    c.mark_members.ensures.marked [] [] (subst (λ (ns : List ℕ). MarkedBut s c.mark_actions.new.self ns [])
    (sym (append-nil c.members.result.now ∙ c.members.ensures K h)) below)
