use Rattle.std.proofs.Common.{◌≡◌, ◌∷◌, ◌++◌, [], true, ◌∙◌, ap, sym, subst}
use Rattle.lra_model.specs.History.{History}
use Rattle.lra_model.specs.Rules.{allows}
use Rattle.lra_laws.specs.Snapshots.{StandsFor, Follows}
use Rattle.lra_tables.specs.inner.Boarded.{Boarded, has_room, uncarried}
use Rattle.lra_tables.specs.declared.settling_index.SettlingIndex.{SettlingIndex}
use Rattle.lra_tables.proofs.Boards.{takes_deed, carried_marks, room_back}
use Rattle.lra_tables.proofs.settling_state.SettlingState.carry.Goals as goal

pub grow-requires : goal.grow-requires
grow-requires c = takes_deed c.args.entry.now c.self.inside.rows c.self.inside.settling_index
    (ap (has_room c.args.entry.now) c.self.view_is ∙ c.requires.room)

pub invariant_of-self : goal.invariant_of-self
invariant_of-self c =
    let e = c.args.entry.now in
    let follows = subst (λ (b : Boarded). Follows b.rows.snapshot e) (sym c.self.view_is) c.requires.follows in
    let J = follows.history in
    let after = c.carry-step.ensures.stands J follows.stands follows.allowed in
    c.mark.ensures.marked (J ++ e ∷ []) after
    (carried_marks _ _ J e c.self.inside.settling_index c.grow.new.self follows.stands
    follows.allowed after c.self.invariant c.grow.ensures)

pub returns-clause-stands : goal.returns-clause-stands
returns-clause-stands c =
    subst (λ (b : Boarded). (J : History) (h : StandsFor b.rows.snapshot J)
    → allows h.version h.is_address J c.args.entry.now ≡ true → StandsFor c.carry-step.new.self.snapshot
    (J ++ c.args.entry.now ∷ [])) c.self.view_is c.carry-step.ensures.stands

pub returns-clause-back : goal.returns-clause-back
returns-clause-back c =
    let e = c.args.entry.now in
    let r = c.self.inside.settling_index in
    let step = c.carry-step.result in
    let room = c.mark.ensures.room in
    let took = takes_deed e c.self.inside.rows r (ap (has_room e) c.self.view_is ∙ c.requires.room) in
    (λ i. uncarried e step (record {
      rows = c.carry-step.new.self;
      skips = (room.skips ∙ ap (λ (x : SettlingIndex). x.skips.room) c.grow.ensures) i;
      turns = (room.turns ∙ ap (λ (x : SettlingIndex). x.turns.room) c.grow.ensures) i;
      ends = (room.ends ∙ ap (λ (x : SettlingIndex). x.ends.room) c.grow.ensures) i;
    }))
    ∙ room_back e.by e.moment e.deed step c.carry-step.new.self r took
    ∙ (λ i. record {
      rows = c.carry-step.ensures.back i;
      skips = r.skips.room;
      turns = r.turns.room;
      ends =
          r.ends.room;
    })
    ∙ c.self.view_is
