use Rattle.std.proofs.Common.{◌≡◌, [], true}
use Rattle.lra_ticket.specs.Views.{is_resting, moved}
use Rattle.lra_ticket.proofs.lock.TicketLock.draw.Given as goal

abbrev pub invariant-loop : goal.invariant-loop
invariant-loop g l = record {
  same_lock : l.seat.table_id ≡ l.fn.pass.seat.table_id;
  same_view : l.seat.me.0 ≡ moved l.fn.pass.seat.me.0 l.seat.me.0.place;
  empty : l.seat.me.1 ≡ [];
  rests : is_resting l.seat.me.0.place ≡ true;
}
