use Rattle.std.proofs.Common.{refl, sym, ◌∙◌}
use Rattle.lra_office.specs.Clerks.{clerk_view}
use Rattle.lra_workers.specs.Work.{post}
use Rattle.lra_workers.proofs.Holding.{no_asks}
use Rattle.lra_workers.proofs.CallbackExchangeOn.{carries_none, goes_on}
use Rattle.lra_workers.proofs.callback_worker.run_callback_worker.Goals as goal

pub loop-init : goal.loop-init
loop-init g c = record {
  clerk = c.requires.clerk;
  number = refl;
  held = no_asks g.V.LockedService.covers _ (g.C.CallbackPool.held c.args.callback_pool.now) c.requires.none;
  work = carries_none g.V.LockedService.setting g.C.CallbackPool.gives g.K.Clock.tells
      (post (clerk_view c.args.clerk) c.args.clock.now);
}

pub loop-preserved-in-Err : goal.loop-preserved-in-Err
loop-preserved-in-Err g c = record {
  clerk = c.take_turn.ensures.clerk;
  number = c.take_turn.ensures.number ∙ c.loop.invariant.number;
  held = c.take_turn.ensures.held;
  work = goes_on g.V.LockedService.setting g.C.CallbackPool.gives g.K.Clock.tells
      (post (clerk_view c.args.clerk) c.args.clock.now) (post (clerk_view c.take_turn.new.clerk) c.take_turn.new.clock)
      c.in-Err.end
      (sym c.is_for_memory.ensures ∙ c.if-not-is_for_memory.false) (c.in-Err.ensures.work
      (post (clerk_view c.args.clerk) c.args.clock.now) c.loop.invariant.work);
}
