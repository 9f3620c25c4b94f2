use Rattle.std.proofs.Common.{◌≡◌}
use Rattle.lra_office.specs.Clerks.{clerk_view, IsClerkOf}
use Rattle.lra_workers.specs.Work.{Post, post, Works}
use Rattle.lra_workers.proofs.worker.fire.Given as goal

abbrev pub invariant-loop : goal.invariant-loop
invariant-loop g l = record {
  clerk : IsClerkOf l.office.lock g.V.LockedService.covers l.clerk;
  number : l.clerk.number ≡ l.fn.clerk.number;
  work : (s : Post g.row.V-Origin.Denot g.row.K.Denot) → Works g.V.LockedService.setting g.C.Courier.gives
      g.K.Clock.tells s
      (post (clerk_view l.fn.clerk) l.fn.clock)
      → Works g.V.LockedService.setting g.C.Courier.gives g.K.Clock.tells s (post (clerk_view l.clerk) l.clock);
}
