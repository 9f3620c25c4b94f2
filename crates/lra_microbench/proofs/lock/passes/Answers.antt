use Rattle.std.proofs.Common.{◌≡◌}
use Rattle.std.proofs.lemmas.List.Elements.{All-push}
use Rattle.lra_ticket.specs.Locks.{lock_id, pass_id}
use Rattle.lra_microbench.proofs.lock.passes.Goals as goal

pub loop-preserved : goal.loop-preserved
loop-preserved g c = record {
  same_lock = c.split-kept.ensures.lock.0;
  all_of_it = rw c.in_ok-push.ensures.items (All-push (λ p. pass_id p ≡ lock_id c.args.lock.now) c.loop.all.items _
      c.loop.invariant.all_of_it c.split-kept.ensures.lock.1);
}
