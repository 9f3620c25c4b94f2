use Rattle.std.proofs.Common.{◌≡◌}
use Rattle.lra_office.specs.Clerks.{clerk_view, IsClerkOf}
use Rattle.lra_workers.specs.Work.{post, Works}
use Rattle.lra_workers.proofs.worker.run_worker.Given as goal

abbrev pub invariant-loop : goal.invariant-loop
invariant-loop g l = record {
  clerk : IsClerkOf l.office.lock g.V.LockedService.covers l.clerk;
  number : l.clerk.number ≡ l.fn.clerk.number;
  work : Works g.V.LockedService.setting g.C.Courier.gives g.K.Clock.tells (post (clerk_view l.fn.clerk) l.fn.clock)
      (post (clerk_view l.clerk) l.clock);
}
