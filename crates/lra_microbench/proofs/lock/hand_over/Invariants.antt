use Rattle.std.proofs.Common.{◌≡◌}
use Rattle.lra_ticket.specs.Locks.{lock_id, pass_id}
use Rattle.lra_microbench.proofs.lock.hand_over.Given as goal

abbrev pub invariant-loop : goal.invariant-loop
invariant-loop g l = pass_id l.pass ≡ lock_id l.lock
