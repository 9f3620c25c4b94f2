use Rattle.std.proofs.Common.{refl, Ok, Err}
use Rattle.lra_courier.proofs.calling.DiallingCourier.call.Goals as goal

pub returns-in-Ok-clause-calls : goal.returns-in-Ok-clause-calls
returns-in-Ok-clause-calls g c = (Ok _, c.in-Ok.ensures.calls, refl)

pub returns-in-Err-clause-calls : goal.returns-in-Err-clause-calls
returns-in-Err-clause-calls g c = (Err _, c.in-Err.ensures.calls, refl)
