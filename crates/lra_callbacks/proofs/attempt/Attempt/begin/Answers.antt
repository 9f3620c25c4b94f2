use Rattle.std.proofs.Common.{ℕ, Option, subst}
use Rattle.std.specs.Prelude.{IfSome}
use Rattle.std.specs.Option.{ForSome}
use Rattle.std.proofs.lemmas.Option.{same_Some}
use Rattle.lra_courier.specs.Callbacks.{extra_of}
use Rattle.lra_durable.specs.Leaves.{MayLeave}
use Rattle.lra_callbacks.specs.declared.attempt.Flight.{Flight}
use Rattle.lra_callbacks.specs.Outcomes.{IsFor, IsForWith}
use Rattle.lra_callbacks.proofs.attempt.Attempt.begin.Goals as goal

pub invariant_of-self : goal.invariant_of-self
invariant_of-self g c =
    let keeps = g.G.SyncGroup.keeps c.args.self.now.instance in
    let told = subst (λ (o : Option ℕ). IfSome o (MayLeave keeps c.position.result)) c.in-Some.is
    c.in-Ok.ensures.kept in
    record {
      leave = λ x e y h. subst (λ (f : Flight). MayLeave keeps y.1 f.kept) (same_Some _ x e)
          (subst (λ (n : ℕ). MayLeave keeps n c.in-Some.kept) (c.position.ensures y h) told);
      own = λ x e. subst (λ (f : Flight). ForSome c.args.self.now.errand (λ y. ∥ IsFor f.callback_exchange y.0 ∥₁))
          (same_Some _ x e)
          (λ y h. ∣ record { extra = _; own = (c.in-Some-callback.ensures y h).own } ∣₁);
    }

pub returns-in-Some-callback-clause-extra : goal.returns-in-Some-callback-clause-extra
returns-in-Some-callback-clause-extra g c = λ socket now x e y h.
    subst (λ (f : Flight). IsForWith (extra_of c.args.extra) f.callback_exchange y.0) (same_Some _ x e)
    (c.in-Some-callback.ensures y h).own
