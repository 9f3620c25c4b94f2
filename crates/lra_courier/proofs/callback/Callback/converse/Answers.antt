use Rattle.std.proofs.Common.{Err, refl, ap}
use Rattle.lra_courier.proofs.SendLemmas.{unwritten}
use Rattle.lra_courier.proofs.callback.Callback.converse.Goals as goal

pub returns-in-Err-clause-converses : goal.returns-in-Err-clause-converses
returns-in-Err-clause-converses g c = (
  c.args.stream,
  unwritten _ _ c.args.self.now c.in-Err.fault refl c.in-Err.ensures.io (λ e. c.in-Err.ensures.err (ap Err e)),
)
