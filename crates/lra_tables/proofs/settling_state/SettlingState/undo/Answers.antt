use Rattle.std.proofs.Common.{◌≡◌, ◌∙◌, ap, sym, subst}
use Rattle.lra_laws.specs.Snapshots.{StandsFor}
use Rattle.lra_laws.specs.inner.Concerned.{members_concerned, actions_concerned}
use Rattle.lra_rows.specs.Rowed.{Rowed}
use Rattle.lra_rows.specs.Steps.{taken_back}
use Rattle.lra_tables.specs.inner.Boarded.{Boarded}
use Rattle.lra_tables.specs.inner.SettlingIndex.{MarkedBut}
use Rattle.lra_tables.proofs.Boards.{taken_marks, taken_numbers}
use Rattle.lra_tables.proofs.settling_state.SettlingState.undo.Goals as goal

pub shrink-requires : goal.shrink-requires
shrink-requires c =
    taken_numbers c.requires.before.snapshot c.self.inside.rows.snapshot c.args.entry.now c.self.inside.settling_index
    c.requires.follows (ap (λ (b : Boarded). b.rows.snapshot) c.self.view_is ∙ c.requires.now) c.self.invariant

pub invariant_of-self : goal.invariant_of-self
invariant_of-self c =
    let before = c.requires.before in
    let back : c.undo-uris.new.self ≡ before = c.undo-uris.ensures.rows
    ∙ ap (λ (b : Boarded). taken_back c.args.step b.rows) c.self.view_is ∙ c.requires.back in
    let stands : StandsFor c.undo-uris.new.self.snapshot c.requires.follows.history =
    subst (λ (x : Rowed). StandsFor x.snapshot c.requires.follows.history) (sym back) c.requires.follows.stands in
    let marked = taken_marks before.snapshot c.self.inside.rows.snapshot c.args.entry.now c.self.inside.settling_index
    c.shrink.new.self c.requires.follows (ap (λ (b : Boarded). b.rows.snapshot) c.self.view_is ∙ c.requires.now)
    c.self.invariant c.shrink.ensures in
    c.mark.ensures.marked c.requires.follows.history stands
    (subst (λ (x : Rowed). MarkedBut x.snapshot.state c.shrink.new.self
    (members_concerned c.requires.follows.history c.args.entry.now.deed)
    (actions_concerned c.requires.follows.history c.args.entry.now.deed)) (sym back) marked)
