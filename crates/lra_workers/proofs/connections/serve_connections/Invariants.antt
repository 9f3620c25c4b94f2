use Rattle.lra_ticket.specs.Locks.{lock_id}
use Rattle.lra_office.specs.Clerks.{IsClerkOf}
use Rattle.lra_office.specs.Stops.{KeepsInTurn}
use Rattle.lra_workers.specs.Connections.{clerk_sight, ConnectionsIn}
use Rattle.lra_workers.proofs.connections.serve_connections.Given as goal

abbrev pub invariant-loop-answered : goal.invariant-loop-answered
invariant-loop-answered g l = record {
  clerk : IsClerkOf l.office.lock g.V.LockedService.covers l.clerk;
  answers : ConnectionsIn (KeepsInTurn g.V.LockedService.setting g.V.Kept.origin g.V.Kept.history g.V.Kept.lawful
      g.V.LockedService.has_stopped) g.K.Clock.tells l._answered (clerk_sight g.V.LockedService.setting l.fn.clerk)
      l.fn.clock
      (clerk_sight g.V.LockedService.setting l.clerk) l.clock;
}

abbrev pub ghosts-answer : goal.ghosts-answer
ghosts-answer g a = record { lock = lock_id a.office.now.lock }
