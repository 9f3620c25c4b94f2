use Rattle.lra_core.proofs.Numbers.{stands}
use Rattle.lra_core.proofs.coordinator.CoordinatorOf.query.Goals as goal

pub returns : goal.returns
returns g c =
    let J = g.P.HistoryStore.history c.self.inside.past in
    let k = stands c.self.inside.terms c.self.inside.tables c.self.inside.schedule J c.self.invariant in
    rw (← c.self.view_is) (c.tell.ensures J k)
