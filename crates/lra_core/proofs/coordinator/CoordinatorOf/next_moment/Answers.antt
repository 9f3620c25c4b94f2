use Rattle.lra_core.proofs.Numbers.{stands}
use Rattle.lra_core.proofs.coordinator.CoordinatorOf.next_moment.Goals as goal

pub returns : goal.returns
returns g c =
    let J = g.P.HistoryStore.history c.self.inside.past in
    let k = c.self.invariant in
    rw (← c.self.view_is)
    (c.next.ensures J k.schedule (stands c.self.inside.terms c.self.inside.tables c.self.inside.schedule J k))
