use Rattle.std.proofs.Common.{◌≤◌, length, drop, sym, subst}
use Rattle.lra_courier.specs.Carried.{Carried}
use Rattle.lra_courier.specs.inner.Holding.{carried_of}
use Rattle.lra_courier.proofs.CarriedLemmas.{carried_went}
use Rattle.lra_courier.proofs.callback_exchange.CallbackExchange.advance_by.Goals as goal

pub invariant_of-self : goal.invariant_of-self
invariant_of-self c = record {
  carried = carried_went (carried_of c.self.inside) c.args.count c.self.invariant.carried
      (subst (λ (h : Carried). c.args.count ≤ length (drop h.advance_by h.request)) (sym c.self.view_is) c.requires);
  sees = c.self.invariant.sees;
}
