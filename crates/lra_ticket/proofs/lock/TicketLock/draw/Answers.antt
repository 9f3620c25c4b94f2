use Rattle.std.proofs.Common.{rules, ap}
use Rattle.lra_ticket.proofs.Keeps.{looks, draws}
use Rattle.lra_ticket.proofs.lock.TicketLock.draw.Goals as goal

pub load-ticket-requires : goal.load-ticket-requires
load-ticket-requires g c = (
  search rules,
  search rules,
  looks g.V.Kept.origin g.V.Kept.history g.V.Kept.lawful _ _ _ _
      c.loop.invariant.rests,
)

pub compare_exchange-requires : goal.compare_exchange-requires
compare_exchange-requires g c = (
  search rules,
  search rules,
  draws g.V.Kept.origin g.V.Kept.history g.V.Kept.lawful _ _
      _ _ c.load-ticket.result (ap (λ m. m.0.place) c.load-ticket.ensures.2) (search rules),
)
