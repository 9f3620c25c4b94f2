use Rattle.lra_office.specs.Clerks.{clerk_view}
use Rattle.lra_workers.specs.Work.{post}
use Rattle.lra_workers.proofs.Holding.{asks_stay, worked_up_to}
use Rattle.lra_workers.proofs.CallbackExchangeOn.{carries_on, carries_up_to}
use Rattle.lra_workers.proofs.callback_worker.take_one.Goals as goal

pub hand_over-requires-clause-held : goal.hand_over-requires-clause-held
hand_over-requires-clause-held g c =
    asks_stay g.V.LockedService.covers _ _ (g.C.CallbackPool.held c.args.callback_pool.now)
    (worked_up_to g.V.LockedService.setting g.C.CallbackPool.gives g.K.Clock.tells
    (post (clerk_view c.args.clerk.now) c.args.clock.now) (post (clerk_view c.next_errand.new.clerk)
    c.next_errand.new.clock) c.next_errand.result c.next_errand.ensures.work) c.requires.held

pub returns-in-Ok-clause-work : goal.returns-in-Ok-clause-work
returns-in-Ok-clause-work g c = λ s before.
    c.in-Ok.ensures.work s (carries_on g.V.LockedService.setting g.C.CallbackPool.gives g.K.Clock.tells s
    (post (clerk_view c.args.clerk.now) c.args.clock.now) (post (clerk_view c.next_errand.new.clerk)
    c.next_errand.new.clock) c.in-Ok-Some.ensures.work before)

pub returns-in-Err-hand_over-clause-work : goal.returns-in-Err-hand_over-clause-work
returns-in-Err-hand_over-clause-work g c = λ s before.
    c.in-Err-hand_over.ensures.work s (carries_on g.V.LockedService.setting g.C.CallbackPool.gives g.K.Clock.tells s
    (post (clerk_view c.args.clerk.now) c.args.clock.now) (post (clerk_view c.next_errand.new.clerk)
    c.next_errand.new.clock) c.in-Ok-Some.ensures.work before)

pub returns-in-Ok-None-clause-held : goal.returns-in-Ok-None-clause-held
returns-in-Ok-None-clause-held g c =
    asks_stay g.V.LockedService.covers _ _ (g.C.CallbackPool.held c.args.callback_pool.now)
    (worked_up_to g.V.LockedService.setting g.C.CallbackPool.gives g.K.Clock.tells
    (post (clerk_view c.args.clerk.now) c.args.clock.now) (post (clerk_view c.next_errand.new.clerk)
    c.next_errand.new.clock) c.next_errand.result c.next_errand.ensures.work) c.requires.held

pub returns-in-Ok-None-clause-work : goal.returns-in-Ok-None-clause-work
returns-in-Ok-None-clause-work g c = λ s before. carries_on g.V.LockedService.setting g.C.CallbackPool.gives
    g.K.Clock.tells s
    (post (clerk_view c.args.clerk.now) c.args.clock.now) (post (clerk_view c.next_errand.new.clerk)
    c.next_errand.new.clock) c.in-Ok-None.ensures.work before

pub returns-in-Err-clause-held : goal.returns-in-Err-clause-held
returns-in-Err-clause-held g c =
    asks_stay g.V.LockedService.covers _ _ (g.C.CallbackPool.held c.args.callback_pool.now)
    (worked_up_to g.V.LockedService.setting g.C.CallbackPool.gives g.K.Clock.tells
    (post (clerk_view c.args.clerk.now) c.args.clock.now) (post (clerk_view c.next_errand.new.clerk)
    c.next_errand.new.clock) c.next_errand.result c.next_errand.ensures.work) c.requires.held

pub returns-in-Err-clause-work : goal.returns-in-Err-clause-work
returns-in-Err-clause-work g c = λ s before. carries_up_to g.V.LockedService.setting g.C.CallbackPool.gives
    g.K.Clock.tells s
    (post (clerk_view c.args.clerk.now) c.args.clock.now) (post (clerk_view c.next_errand.new.clerk)
    c.next_errand.new.clock) c.in-Err.refusal c.in-Err.ensures.work before
