use Rattle.lra_office.specs.Clerks.{clerk_view}
use Rattle.lra_workers.specs.Work.{post}
use Rattle.lra_workers.proofs.Holding.{asks_stay, same_asks, lost_ask, lost_asks, carried}
use Rattle.lra_workers.proofs.callback_worker.record_one.Goals as goal

pub returns-in-Ok-clause-held : goal.returns-in-Ok-clause-held
returns-in-Ok-clause-held g c =
    asks_stay g.V.LockedService.covers _ _ (g.C.CallbackPool.held c.done.new.self)
    (carried g.V.LockedService.setting g.C.CallbackPool.gives g.K.Clock.tells (post (clerk_view c.args.clerk.now)
    c.args.clock.now) (post (clerk_view c.note.new.clerk) c.note.new.clock) c.note.result c.note.ensures.work)
    (lost_asks g.V.LockedService.covers _ (g.C.CallbackPool.held c.args.callback_pool.now)
    (g.C.CallbackPool.held c.done.new.self) _
    c.in-Some.ensures.some.1 c.requires.held)

pub returns-in-Err-clause-held : goal.returns-in-Err-clause-held
returns-in-Err-clause-held g c =
    asks_stay g.V.LockedService.covers _ _ (g.C.CallbackPool.held c.done.new.self)
    (carried g.V.LockedService.setting g.C.CallbackPool.gives g.K.Clock.tells (post (clerk_view c.args.clerk.now)
    c.args.clock.now) (post (clerk_view c.note.new.clerk) c.note.new.clock) c.note.result c.note.ensures.work)
    (lost_asks g.V.LockedService.covers _ (g.C.CallbackPool.held c.args.callback_pool.now)
    (g.C.CallbackPool.held c.done.new.self) _
    c.in-Some.ensures.some.1 c.requires.held)

pub note-requires-clause-of_ask : goal.note-requires-clause-of_ask
note-requires-clause-of_ask g c =
    lost_ask g.V.LockedService.covers _ (g.C.CallbackPool.held c.args.callback_pool.now)
    (g.C.CallbackPool.held c.done.new.self) _
    c.in-Some.ensures.some.1 c.requires.held

pub returns-in_default-clause-held : goal.returns-in_default-clause-held
returns-in_default-clause-held g c =
    same_asks g.V.LockedService.covers _ (g.C.CallbackPool.held c.args.callback_pool.now)
    (g.C.CallbackPool.held c.done.new.self)
    c.in_default.ensures.none c.requires.held
