use Rattle.std.proofs.Common.{rules}
use Rattle.lra_ticket.proofs.Keeps.{branches}
use Rattle.lra_ticket.proofs.lock.TicketLock.split.Goals as goal

pub split_seat-second-requires : goal.split_seat-second-requires
split_seat-second-requires g c = (
  search rules,
  search rules,
  branches g.V.Kept.origin g.V.Kept.history g.V.Kept.lawful
      _ _ _ c.args.pass.rests,
)
