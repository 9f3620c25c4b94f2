use Rattle.std.proofs.Common.{Err, inl, refl, ap}
use Rattle.lra_courier.proofs.SendLemmas.{unread}
use Rattle.lra_courier.proofs.calling.DiallingCourier.try_call.Goals as goal

pub returns-in-Err-clause-calls : goal.returns-in-Err-clause-calls
returns-in-Err-clause-calls g c = inl (
  _,
  refl,
  unread g.D.Dialler.gives c.args.self.now.dialler _ c.args.callback.now.address c.in-Err.fault refl c.in-Err.ensures.io
      (λ e. c.in-Err.ensures.err (ap Err e)),
)
