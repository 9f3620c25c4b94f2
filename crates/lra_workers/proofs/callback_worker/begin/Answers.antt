use Rattle.lra_office.specs.Clerks.{clerk_view}
use Rattle.lra_workers.specs.Work.{post}
use Rattle.lra_workers.proofs.Holding.{asks_stay, worked_up_to}
use Rattle.lra_workers.proofs.CallbackExchangeOn.{carries_on, carries_up_to}
use Rattle.lra_workers.proofs.callback_worker.begin.Goals as goal

pub take_due-requires-clause-held : goal.take_due-requires-clause-held
take_due-requires-clause-held g c =
    asks_stay g.V.LockedService.covers _ _ (g.C.CallbackPool.held c.args.callback_pool.now)
    (worked_up_to g.V.LockedService.setting g.C.CallbackPool.gives g.K.Clock.tells
    (post (clerk_view c.args.clerk.now) c.args.clock.now) (post (clerk_view c.fire.new.clerk) c.fire.new.clock)
    c.fire.result c.fire.ensures.work) c.requires.held

pub returns-clause-work : goal.returns-clause-work
returns-clause-work g c = λ s before. c.take_due.ensures.work s
    (carries_on g.V.LockedService.setting g.C.CallbackPool.gives
    g.K.Clock.tells s (post (clerk_view c.args.clerk.now) c.args.clock.now)
    (post (clerk_view c.fire.new.clerk) c.fire.new.clock) c.in_default.ensures.work before)

pub returns-in-Err-clause-held : goal.returns-in-Err-clause-held
returns-in-Err-clause-held g c =
    asks_stay g.V.LockedService.covers _ _ (g.C.CallbackPool.held c.args.callback_pool.now)
    (worked_up_to g.V.LockedService.setting g.C.CallbackPool.gives g.K.Clock.tells
    (post (clerk_view c.args.clerk.now) c.args.clock.now) (post (clerk_view c.fire.new.clerk) c.fire.new.clock)
    c.fire.result c.fire.ensures.work) c.requires.held

pub returns-in-Err-clause-work : goal.returns-in-Err-clause-work
returns-in-Err-clause-work g c = λ s before. carries_up_to g.V.LockedService.setting g.C.CallbackPool.gives
    g.K.Clock.tells s
    (post (clerk_view c.args.clerk.now) c.args.clock.now) (post (clerk_view c.fire.new.clerk) c.fire.new.clock)
    c.in-Err.refusal c.in-Err.ensures.work before
