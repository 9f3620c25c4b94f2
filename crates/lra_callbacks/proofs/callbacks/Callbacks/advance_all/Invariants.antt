use Rattle.std.proofs.Common.{◌≡◌}
use Rattle.lra_callbacks.proofs.callbacks.Callbacks.advance_all.Given as goal

abbrev pub invariant-loop-place : goal.invariant-loop-place
invariant-loop-place g l = l.self ≡ l.fn.self
