use Rattle.std.proofs.Common.{◌∙◌, Option, Some, Result, Ok, ap, subst}
use Rattle.std.specs.Prelude.{IfSome, IsTrue}
use Rattle.lra_model.specs.declared.asks.AskKind.{AskKind}
use Rattle.lra_model.specs.declared.asks.Outcome.{Outcome}
use Rattle.lra_model.specs.Words.{outcome_suits}
use Rattle.lra_courier.specs.declared.fault.CallFault.{CallFault}
use Rattle.lra_courier.specs.Carried.{Carried, Comes}
use Rattle.lra_courier.specs.inner.Holding.{carried_of}
use Rattle.lra_courier.proofs.CarriedLemmas.{comes_suits}
use Rattle.lra_courier.proofs.callback_exchange.CallbackExchange.outcome.Goals as goal

pub returns-in-Some-Ok-clause-suits : goal.returns-in-Some-Ok-clause-suits
returns-in-Some-Ok-clause-suits c =
    let h = carried_of c.self.inside in
    let comes = subst (λ (o : Option (Result Outcome CallFault)). IfSome o (Comes h))
    (c.in-Some-Ok.is ∙ ap Some (rw c.in-Some-Ok.is at c.in-Some-Ok.field-0-is)) c.self.invariant.carried.came in
    subst (λ (k : AskKind). IsTrue (outcome_suits k c.in-Some-Ok.outcome)) (ap (λ (h : Carried). h.kind) c.self.view_is)
    (comes_suits h (Ok c.in-Some-Ok.outcome) comes)
