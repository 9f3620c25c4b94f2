use Rattle.std.proofs.Common.{◌≡◌}
use Rattle.lra_ticket.proofs.lock.TicketLock.wait.Given as goal

abbrev pub invariant-loop : goal.invariant-loop
invariant-loop g l = record {
  same_lock : l.seat.table_id ≡ l.fn.queued.seat.table_id;
  same_hand : l.seat.me ≡ l.fn.queued.seat.me;
}
