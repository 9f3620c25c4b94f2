use Rattle.std.proofs.Common.{◌≡◌, true, refl, subst}
use Rattle.lra_model.specs.Words.{outcome_suits}
use Rattle.lra_courier.specs.Callbacks.{Calling}
use Rattle.lra_courier.specs.Exchanges.{ComesOf}
use Rattle.lra_courier.specs.Calls.{Calls}
use Rattle.lra_courier.proofs.calling.DiallingCourierCourier.carry.Goals as goal

pub returns : goal.returns
returns g c = record {
  suits = subst (λ (called : Calling). outcome_suits called.kind c.call.result ≡ true) c.of.ensures
      c.call.ensures.suits;
  dialler = c.args.self.now.dialler;
  errand = c.args.errand.now;
  of_ask = refl;
  of_kind = refl;
  came = subst (λ (called : Calling). ComesOf (Calls g.D.Dialler.gives g.D.Stream.Write.contents
      g.D.Stream.Read.remaining c.args.self.now.dialler called) c.call.result)
      c.of.ensures c.call.ensures.calls;
}
