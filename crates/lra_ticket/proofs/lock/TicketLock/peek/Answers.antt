use Rattle.std.proofs.Common.{rules}
use Rattle.lra_ticket.proofs.Keeps.{peeks}
use Rattle.lra_ticket.proofs.lock.TicketLock.peek.Goals as goal

pub load-served-requires : goal.load-served-requires
load-served-requires g c = (
  search rules,
  search rules,
  peeks g.V.Kept.origin g.V.Kept.history g.V.Kept.lawful _ _ _ _
      c.args.pass.rests,
)
