use Rattle.std.proofs.Common.{◌≡◌, All}
use Rattle.lra_ticket.specs.Locks.{lock_id, pass_id}
use Rattle.lra_microbench.proofs.lock.passes.Given as goal

abbrev pub invariant-loop : goal.invariant-loop
invariant-loop g l = record {
  same_lock : pass_id l.pass ≡ lock_id l.lock;
  all_of_it : All (λ p. pass_id p ≡ lock_id l.lock) l.all.items;
}
