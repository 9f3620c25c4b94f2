use Rattle.std.proofs.Common.{Ok, Err}
use Rattle.lra_office.specs.Clerks.{clerk_view}
use Rattle.lra_workers.proofs.Holding.{asks_stay, foreseen}
use Rattle.lra_workers.proofs.CallbackExchangeOn.{looks}
use Rattle.lra_workers.proofs.callback_worker.begin_next.Goals as goal

pub returns-in-Ok-clause-held : goal.returns-in-Ok-clause-held
returns-in-Ok-clause-held g c =
    asks_stay g.V.LockedService.covers _ _ (g.C.CallbackPool.held c.begin.new.callback_pool)
    (foreseen g.V.LockedService.setting g.C.CallbackPool.gives g.K.Clock.tells (g.V.LockedService.setting
    (clerk_view c.begin.new.clerk).origin) (clerk_view c.begin.new.clerk) (clerk_view c.next_moment.new.clerk)
    (Ok c.in-Ok.next) c.in-Ok.ensures.next) c.begin.ensures.held

pub returns-in-Ok-clause-work : goal.returns-in-Ok-clause-work
returns-in-Ok-clause-work g c = λ s before.
    looks g.V.LockedService.setting g.C.CallbackPool.gives g.K.Clock.tells s (clerk_view c.begin.new.clerk)
    (clerk_view c.next_moment.new.clerk) c.begin.new.clock (Ok c.in-Ok.next) c.in-Ok.ensures.next
    (c.in_default.ensures.work s before)

pub returns-in-Err-next_moment-clause-held : goal.returns-in-Err-next_moment-clause-held
returns-in-Err-next_moment-clause-held g c =
    asks_stay g.V.LockedService.covers _ _ (g.C.CallbackPool.held c.begin.new.callback_pool)
    (foreseen g.V.LockedService.setting g.C.CallbackPool.gives g.K.Clock.tells (g.V.LockedService.setting
    (clerk_view c.begin.new.clerk).origin) (clerk_view c.begin.new.clerk) (clerk_view c.next_moment.new.clerk)
    (Err c.in-Err-next_moment.refusal) c.in-Err-next_moment.ensures.next) c.begin.ensures.held

pub returns-in-Err-next_moment-clause-work : goal.returns-in-Err-next_moment-clause-work
returns-in-Err-next_moment-clause-work g c = λ s before.
    looks g.V.LockedService.setting g.C.CallbackPool.gives g.K.Clock.tells s (clerk_view c.begin.new.clerk)
    (clerk_view c.next_moment.new.clerk) c.begin.new.clock (Err c.in-Err-next_moment.refusal)
    c.in-Err-next_moment.ensures.next (c.in_default.ensures.work s before)
