use Rattle.lra_office.specs.Clerks.{clerk_view}
use Rattle.lra_workers.specs.Work.{post}
use Rattle.lra_workers.proofs.Working.{works_on, passed, records, records_not, refusal_tells, known_number}
use Rattle.lra_workers.proofs.worker.record.Goals as goal

pub returns-in-Ok-clause-work : goal.returns-in-Ok-clause-work
returns-in-Ok-clause-work g c = λ s before.
    let h = c.in-Ok.ensures.recorded in
    let d = records g.V.LockedService.setting g.C.Courier.gives g.K.Clock.tells (clerk_view c.args.clerk.now)
    (clerk_view c.record.new.clerk) c.args.clock.now c.now-moment.new.self
    h.0 _ _ c.args.errand c.args.outcome c.in-Ok.field-0 h.2.0 h.1 c.requires.clerk.number c.requires.of_ask
    c.requires.given c.now-moment.ensures h.2.1 in
    works_on g.V.LockedService.setting g.C.Courier.gives g.K.Clock.tells s (post (clerk_view c.args.clerk.now)
    c.args.clock.now) (post (clerk_view c.record.new.clerk) c.now-moment.new.self) before d

pub returns-in-Err-clause-work : goal.returns-in-Err-clause-work
returns-in-Err-clause-work g c = λ s before.
    let h = c.in-Err.ensures.recorded in
    let f = records_not g.V.LockedService.setting g.C.Courier.gives g.K.Clock.tells (clerk_view c.args.clerk.now)
    (clerk_view c.record.new.clerk) c.args.clock.now c.now-moment.new.self
    h.0 _ _ c.args.errand c.args.outcome c.in-Err.refusal h.1 c.requires.clerk.number c.requires.of_ask c.requires.given
    c.now-moment.ensures h.2.1 in
    passed g.V.LockedService.setting g.C.Courier.gives g.K.Clock.tells s
    (post (clerk_view c.args.clerk.now) c.args.clock.now)
    (post (clerk_view c.record.new.clerk) c.now-moment.new.self)
    c.in-Err.refusal c.after_refusal.result before (known_number _ _ c.requires.clerk.number c.requires.clerk.enrolled)
    f c.after_refusal.ensures

pub returns-in-Err-clause-why : goal.returns-in-Err-clause-why
returns-in-Err-clause-why g c = refusal_tells _ _ _ _ c.in-Err.refusal c.after_refusal.result c.after_refusal.ensures
    c.in-Err.ensures.stopped
