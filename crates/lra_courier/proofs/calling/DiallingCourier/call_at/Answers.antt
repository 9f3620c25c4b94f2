use Rattle.std.proofs.Common.{inl, inr, refl, subst, List, ℕ}
use Rattle.lra_courier.specs.Calls.{Reaches, Lacks}
use Rattle.lra_courier.proofs.calling.DiallingCourier.call_at.Goals as goal

pub returns-in-Ok-clause-calls : goal.returns-in-Ok-clause-calls
returns-in-Ok-clause-calls g c = inr (record {
  stream = c.in-Ok.stream;
  sent = c.converse_at.ensures.converses.0;
  reached = subst (λ (address : List ℕ). Reaches g.D.Dialler.gives c.args.self.now.dialler address c.in-Ok.stream)
      c.requires.to c.in-Ok.ensures.ok;
  converses = c.converse_at.ensures.converses.1;
})

pub returns-in-Err-clause-calls : goal.returns-in-Err-clause-calls
returns-in-Err-clause-calls g c = inl (
  _,
  refl,
  subst (λ (address : List ℕ). Lacks g.D.Dialler.gives c.args.self.now.dialler address c.in-Err.fault) c.requires.to
      c.in-Err.ensures.err,
)
