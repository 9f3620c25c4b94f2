use Rattle.lra_callbacks.specs.inner.Attempts.{IsOfSame}
use Rattle.lra_callbacks.proofs.pumping.pump.Given as goal

abbrev pub invariant-loop : goal.invariant-loop
invariant-loop g l = IsOfSame l.fn.callback_exchange l.callback_exchange
