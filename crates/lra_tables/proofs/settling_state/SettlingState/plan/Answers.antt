use Rattle.std.proofs.Common.{slice_get, ◌≡◌, ◌∙◌, ◌++◌, ◌∷◌, [], true, List, refl, ap, sym, subst}
use Rattle.lra_model.specs.declared.entry.Entry.{Entry}
use Rattle.lra_tables.specs.inner.Boarded.{Boarded, has_room}
use Rattle.lra_tables.proofs.Trails.{trail_none, carried_stands}
use Rattle.lra_tables.proofs.Settles.{going_after}
use Rattle.lra_tables.proofs.settling_state.SettlingState.plan.Goals as goal

pub settle_rest-result-requires : goal.settle_rest-result-requires
settle_rest-result-requires c =
    going_after c.args.self.now.rows.snapshot c.args.entry c.follow.new.self c.requires
    (carried_stands c.args.self.now.rows.snapshot c.reserve-2.new.self c.follow.new.self c.requires.history c.args.entry
    c.requires.stands c.requires.allowed c.reserve-2.ensures.same c.follow.ensures.carried)

pub go_back-uris-requires : goal.go_back-uris-requires
go_back-uris-requires c =
    let base = c.reserve-2.new.self in
    let none = trail_none base c.reserve.new.self.entries.items c.reserve.new.self.steps.items
    (c.reserve.ensures.entries ∙ c.new-undo_log.ensures.entries) (c.reserve.ensures.steps
    ∙ c.new-undo_log.ensures.steps) in
    let undo_log = c.settle_rest-result.ensures.undo_log base (c.follow.ensures.undo_log base none) in
    record { from = base; undo_log = undo_log }

pub returns-in_err-result-clause-same : goal.returns-in_err-result-clause-same
returns-in_err-result-clause-same c =
    let base = c.reserve-2.new.self in
    let none = trail_none base c.reserve.new.self.entries.items c.reserve.new.self.steps.items
    (c.reserve.ensures.entries ∙ c.new-undo_log.ensures.entries) (c.reserve.ensures.steps
    ∙ c.new-undo_log.ensures.steps) in
    let undo_log = c.settle_rest-result.ensures.undo_log base (c.follow.ensures.undo_log base none) in
    let back = c.go_back-uris.ensures.back base undo_log in
    ap (λ (b : Boarded). b.rows.snapshot) back ∙ c.reserve-2.ensures.same

pub returns-in_err-result-clause-kept : goal.returns-in_err-result-clause-kept
returns-in_err-result-clause-kept c = λ e h.
    let base = c.reserve-2.new.self in
    let none = trail_none base c.reserve.new.self.entries.items c.reserve.new.self.steps.items
    (c.reserve.ensures.entries ∙ c.new-undo_log.ensures.entries) (c.reserve.ensures.steps
    ∙ c.new-undo_log.ensures.steps) in
    let undo_log = c.settle_rest-result.ensures.undo_log base (c.follow.ensures.undo_log base none) in
    let back = c.go_back-uris.ensures.back base undo_log in
    subst (λ (b : Boarded). has_room e b ≡ true) (sym back) (c.reserve-2.ensures.kept e h)

pub returns-clause-same : goal.returns-clause-same
returns-clause-same c =
    let base = c.reserve-2.new.self in
    let none = trail_none base c.reserve.new.self.entries.items c.reserve.new.self.steps.items
    (c.reserve.ensures.entries ∙ c.new-undo_log.ensures.entries) (c.reserve.ensures.steps
    ∙ c.new-undo_log.ensures.steps) in
    let undo_log = c.settle_rest-result.ensures.undo_log base (c.follow.ensures.undo_log base none) in
    let back = c.go_back-uris.ensures.back base undo_log in
    ap (λ (b : Boarded). b.rows.snapshot) back ∙ c.reserve-2.ensures.same

pub returns-clause-kept : goal.returns-clause-kept
returns-clause-kept c = λ e h.
    let base = c.reserve-2.new.self in
    let none = trail_none base c.reserve.new.self.entries.items c.reserve.new.self.steps.items
    (c.reserve.ensures.entries ∙ c.new-undo_log.ensures.entries) (c.reserve.ensures.steps
    ∙ c.new-undo_log.ensures.steps) in
    let undo_log = c.settle_rest-result.ensures.undo_log base (c.follow.ensures.undo_log base none) in
    let back = c.go_back-uris.ensures.back base undo_log in
    subst (λ (b : Boarded). has_room e b ≡ true) (sym back) (c.reserve-2.ensures.kept e h)

pub returns-clause-room : goal.returns-clause-room
returns-clause-room c =
    let base = c.reserve-2.new.self in
    let none = trail_none base c.reserve.new.self.entries.items c.reserve.new.self.steps.items
    (c.reserve.ensures.entries ∙ c.new-undo_log.ensures.entries) (c.reserve.ensures.steps
    ∙ c.new-undo_log.ensures.steps) in
    let undo_log = c.settle_rest-result.ensures.undo_log base (c.follow.ensures.undo_log base none) in
    let back = c.go_back-uris.ensures.back base undo_log in
    subst (λ (b : Boarded). has_room c.args.entry b ≡ true) (sym back) c.in_ok-reserve-2.ensures.ok

pub returns-clause-entries : goal.returns-clause-entries
returns-clause-entries c = λ J h allowed.
    let stands = carried_stands c.args.self.now.rows.snapshot c.reserve-2.new.self c.follow.new.self J c.args.entry h
    allowed c.reserve-2.ensures.same c.follow.ensures.carried in
    c.in_ok-result.ensures.whole J c.args.entry h.version h.is_address h.legal allowed stands refl refl
    (c.follow.ensures.entries ∙ ap (λ (xs : List Entry). xs ++ c.args.entry ∷ [])
    (c.reserve.ensures.entries ∙ c.new-undo_log.ensures.entries))

pub returns-clause-uris : goal.returns-clause-uris
returns-clause-uris c =
    let stands = carried_stands c.args.self.now.rows.snapshot c.reserve-2.new.self c.follow.new.self c.requires.history
    c.args.entry c.requires.stands c.requires.allowed c.reserve-2.ensures.same c.follow.ensures.carried in
    let whole = c.in_ok-result.ensures.whole c.requires.history c.args.entry c.requires.stands.version
    c.requires.stands.is_address c.requires.stands.legal c.requires.allowed stands refl refl
    (c.follow.ensures.entries ∙ ap (λ (xs : List Entry). xs ++ c.args.entry ∷ [])
    (c.reserve.ensures.entries ∙ c.new-undo_log.ensures.entries)) in
    c.go_back-uris.ensures.uris c.args.entry (ap (λ (xs : List Entry). slice_get xs 0) whole)
