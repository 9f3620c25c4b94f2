use Rattle.std.proofs.Common.{rules}
use Rattle.lra_ticket.proofs.Keeps.{grabs}
use Rattle.lra_ticket.proofs.lock.TicketLock.grab.Goals as goal

pub compare_exchange-requires : goal.compare_exchange-requires
compare_exchange-requires g c = (
  search rules,
  search rules,
  grabs g.V.Kept.origin g.V.Kept.history g.V.Kept.lawful _ _
      _ _ c.args.served c.requires.peeked c.requires.small,
)
