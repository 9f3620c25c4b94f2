use Rattle.std.proofs.Common.{◌≡◌}
use Rattle.lra_office.specs.Clerks.{clerk_view, IsClerkOf}
use Rattle.lra_workers.specs.Work.{Post, post}
use Rattle.lra_workers.specs.CallbackExchange.{Carries}
use Rattle.lra_workers.specs.Handed.{AreHanded}
use Rattle.lra_workers.proofs.callback_worker.record_done.Given as goal

abbrev pub invariant-loop : goal.invariant-loop
invariant-loop g l = record {
  clerk : IsClerkOf l.office.lock g.V.LockedService.covers l.clerk;
  number : l.clerk.number ≡ l.fn.clerk.number;
  held : AreHanded g.V.LockedService.covers (clerk_view l.clerk).seen (g.C.CallbackPool.held l.callback_pool);
  work : (s : Post g.row.V-Origin.Denot g.row.K.Denot)
      → Carries g.V.LockedService.setting g.C.CallbackPool.gives g.K.Clock.tells
      s (post (clerk_view l.fn.clerk) l.fn.clock)
      → Carries g.V.LockedService.setting g.C.CallbackPool.gives g.K.Clock.tells s (post (clerk_view l.clerk) l.clock);
}
