use Rattle.std.proofs.Common.{sym, subst}
use Rattle.lra_courier.specs.Carried.{Carried, Comes}
use Rattle.lra_courier.specs.inner.Holding.{carried_of}
use Rattle.lra_courier.proofs.CarriedLemmas.{carried_tells}
use Rattle.lra_courier.proofs.callback_exchange.CallbackExchange.tell.Goals as goal

pub invariant_of-self : goal.invariant_of-self
invariant_of-self c = record {
  carried = carried_tells (carried_of c.self.inside) c.args.told c.self.invariant.carried
      (subst (λ (h : Carried). Comes h c.args.told) (sym c.self.view_is) c.requires);
  sees = c.self.invariant.sees;
}
