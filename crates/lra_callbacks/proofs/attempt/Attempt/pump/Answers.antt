use Rattle.std.proofs.Common.{subst}
use Rattle.std.specs.Option.{ForSome}
use Rattle.std.proofs.lemmas.Option.{same_Some}
use Rattle.lra_durable.specs.Leaves.{MayLeave}
use Rattle.lra_callbacks.specs.declared.attempt.Flight.{Flight}
use Rattle.lra_callbacks.specs.Outcomes.{IsFor}
use Rattle.lra_callbacks.proofs.ResponseParse.{same_for}
use Rattle.lra_callbacks.proofs.attempt.Attempt.pump.Goals as goal

pub invariant_of-self : goal.invariant_of-self
invariant_of-self g c = record {
  leave = λ x e. subst (λ (f : Flight). ForSome c.args.self.now.errand
      (λ y. MayLeave (g.G.SyncGroup.keeps c.args.self.now.instance) y.1 f.kept)) (same_Some _ x e)
      (c.args.self.now.leave c.in-Some.flight c.in-Some.is);
  own = λ x e. subst (λ (f : Flight). ForSome c.args.self.now.errand (λ y. ∥ IsFor f.callback_exchange y.0 ∥₁))
      (same_Some _ x e)
      (same_for c.in-Some.flight.callback_exchange c.pump.new.callback_exchange c.args.self.now.errand c.pump.ensures
      (c.args.self.now.own c.in-Some.flight c.in-Some.is));
}
