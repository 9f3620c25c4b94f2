use Rattle.std.proofs.Common.{◌≡◌}
use Rattle.lra_callbacks.proofs.callbacks.Callbacks.launch_all.Given as goal

abbrev pub invariant-loop : goal.invariant-loop
invariant-loop g l = l.self ≡ l.fn.self
