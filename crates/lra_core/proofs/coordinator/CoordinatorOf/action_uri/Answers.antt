use Rattle.lra_core.proofs.Numbers.{action_number}
use Rattle.lra_core.proofs.coordinator.CoordinatorOf.action_uri.Goals as goal

pub spell_action-requires-clause-positive : goal.spell_action-requires-clause-positive
spell_action-requires-clause-positive g c =
    let k = c.self.invariant in
    (action_number c.self.inside.terms (g.P.HistoryStore.history c.self.inside.past) c.args.action k.keepable k.lawful
    (rw (← c.self.view_is) at c.requires)).0

pub spell_action-requires-clause-small : goal.spell_action-requires-clause-small
spell_action-requires-clause-small g c =
    let k = c.self.invariant in
    (action_number c.self.inside.terms (g.P.HistoryStore.history c.self.inside.past) c.args.action k.keepable k.lawful
    (rw (← c.self.view_is) at c.requires)).1
