use Rattle.std.proofs.Common.{rules, ap, ◌∙◌}
use Rattle.lra_ticket.proofs.Keeps.{watches}
use Rattle.lra_ticket.proofs.lock.TicketLock.wait.Goals as goal

pub load-requires : goal.load-requires
load-requires g c = (
  search rules,
  search rules,
  watches g.V.Kept.origin g.V.Kept.history g.V.Kept.lawful _ _ _ _
      c.args.queued.ticket (ap (λ m. m.0.place) c.loop.invariant.same_hand ∙ c.args.queued.waits),
)
