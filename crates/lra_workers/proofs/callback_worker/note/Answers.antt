use Rattle.std.proofs.Common.{◌∙◌, sym, subst}
use Rattle.lra_commands.specs.declared.refusal.Refusal.TheVariants.{Memory}
use Rattle.lra_commands.specs.Errands.{Asking}
use Rattle.lra_commands.specs.Given.{IsOfAsk}
use Rattle.lra_office.specs.Clerks.{clerk_view}
use Rattle.lra_office.specs.declared.fault.OfficeRefusal.{OfficeRefusal}
use Rattle.lra_office.specs.declared.fault.OfficeRefusal.TheVariants as office
use Rattle.lra_workers.specs.Work.{post, Fails}
use Rattle.lra_workers.proofs.Working.{works_on, passed, records, records_not, known_number}
use Rattle.lra_workers.proofs.Holding.{of_ask_on, fails_seen}
use Rattle.lra_workers.proofs.CallbackExchangeOn.{carries, carries_on, refused, memory_of}
use Rattle.lra_workers.proofs.callback_worker.note.Goals as goal

pub returns-in-Ok-clause-work : goal.returns-in-Ok-clause-work
returns-in-Ok-clause-work g c = λ s before.
    let h = c.in-Ok.ensures.recorded in
    let d = records g.V.LockedService.setting g.C.CallbackPool.gives g.K.Clock.tells (clerk_view c.loop.clerk)
    (clerk_view c.record.new.clerk) c.loop.clock c.now-moment.new.self
    h.0 _ _ c.loop.errand c.args.outcome c.in-Ok.field-0 h.2.0 h.1 c.loop.invariant.clerk.number c.loop.invariant.of_ask
    c.loop.invariant.given c.now-moment.ensures h.2.1 in
    carries_on g.V.LockedService.setting g.C.CallbackPool.gives g.K.Clock.tells s
    (post (clerk_view c.loop.clerk) c.loop.clock)
    (post (clerk_view c.record.new.clerk) c.now-moment.new.self) (λ x w. works_on g.V.LockedService.setting
    g.C.CallbackPool.gives g.K.Clock.tells x (post (clerk_view c.loop.clerk) c.loop.clock)
    (post (clerk_view c.record.new.clerk) c.now-moment.new.self) w d) (c.loop.invariant.work s before)

pub returns-then-not-is_for_memory-clause-work : goal.returns-then-not-is_for_memory-clause-work
returns-then-not-is_for_memory-clause-work g c = λ s before.
    let h = c.in-Err.ensures.recorded in
    let f = records_not g.V.LockedService.setting g.C.CallbackPool.gives g.K.Clock.tells (clerk_view c.loop.clerk)
    (clerk_view c.record.new.clerk) c.loop.clock c.now-moment.new.self
    h.0 _ _ c.loop.errand c.args.outcome c.in-Err.refusal h.1 c.loop.invariant.clerk.number c.loop.invariant.of_ask
    c.loop.invariant.given c.now-moment.ensures h.2.1 in
    carries g.V.LockedService.setting g.C.CallbackPool.gives g.K.Clock.tells s
    (post (clerk_view c.loop.clerk) c.loop.clock)
    (post (clerk_view c.record.new.clerk) c.now-moment.new.self) c.after_refusal.result
    (λ x w. passed g.V.LockedService.setting g.C.CallbackPool.gives g.K.Clock.tells x
    (post (clerk_view c.loop.clerk) c.loop.clock) (post (clerk_view c.record.new.clerk) c.now-moment.new.self)
    c.in-Err.refusal c.after_refusal.result w (known_number _ _ c.loop.invariant.clerk.number
    c.loop.invariant.clerk.enrolled) f c.after_refusal.ensures) (c.loop.invariant.work s before)

pub returns-else-more-clause-work : goal.returns-else-more-clause-work
returns-else-more-clause-work g c = λ s before.
    let h = c.in-Err.ensures.recorded in
    let f = records_not g.V.LockedService.setting g.C.CallbackPool.gives g.K.Clock.tells (clerk_view c.loop.clerk)
    (clerk_view c.record.new.clerk) c.loop.clock c.now-moment.new.self
    h.0 _ _ c.loop.errand c.args.outcome c.in-Err.refusal h.1 c.loop.invariant.clerk.number c.loop.invariant.of_ask
    c.loop.invariant.given c.now-moment.ensures h.2.1 in
    let m : Fails g.V.LockedService.setting g.C.CallbackPool.gives g.K.Clock.tells
    (post (clerk_view c.loop.clerk) c.loop.clock)
    (office.Refused Memory) (post (clerk_view c.record.new.clerk) c.now-moment.new.self) =
    subst (λ (x : OfficeRefusal). Fails g.V.LockedService.setting g.C.CallbackPool.gives g.K.Clock.tells
    (post (clerk_view c.loop.clerk) c.loop.clock) x (post (clerk_view c.record.new.clerk) c.now-moment.new.self))
    (memory_of c.in-Err.refusal (sym c.is_for_memory.ensures ∙ c.if-not-is_for_memory.false)) f in
    refused g.V.LockedService.setting g.C.CallbackPool.gives g.K.Clock.tells s
    (post (clerk_view c.loop.clerk) c.loop.clock)
    (post (clerk_view c.record.new.clerk) c.now-moment.new.self) (c.loop.invariant.work s before) m

pub loop-preserved : goal.loop-preserved
loop-preserved g c =
    let h = c.in-Err.ensures.recorded in
    let f = records_not g.V.LockedService.setting g.C.CallbackPool.gives g.K.Clock.tells (clerk_view c.loop.clerk)
    (clerk_view c.record.new.clerk) c.loop.clock c.now-moment.new.self
    h.0 _ _ c.loop.errand c.args.outcome c.in-Err.refusal h.1 c.loop.invariant.clerk.number c.loop.invariant.of_ask
    c.loop.invariant.given c.now-moment.ensures h.2.1 in
    let m : Fails g.V.LockedService.setting g.C.CallbackPool.gives g.K.Clock.tells
    (post (clerk_view c.loop.clerk) c.loop.clock)
    (office.Refused Memory) (post (clerk_view c.record.new.clerk) c.now-moment.new.self) =
    subst (λ (x : OfficeRefusal). Fails g.V.LockedService.setting g.C.CallbackPool.gives g.K.Clock.tells
    (post (clerk_view c.loop.clerk) c.loop.clock) x (post (clerk_view c.record.new.clerk) c.now-moment.new.self))
    (memory_of c.in-Err.refusal (sym c.is_for_memory.ensures ∙ c.if-not-is_for_memory.false)) f in
    record {
      clerk = c.record.ensures.clerk;
      number = c.record.ensures.number ∙ c.loop.invariant.number;
      of_ask = subst (λ (e : Asking). IsOfAsk (clerk_view c.record.new.clerk).seen e) (sym h.2.0)
          (of_ask_on (clerk_view c.loop.clerk).seen (clerk_view c.record.new.clerk).seen c.loop.errand
          (fails_seen g.V.LockedService.setting g.C.CallbackPool.gives g.K.Clock.tells
          (post (clerk_view c.loop.clerk) c.loop.clock) (post (clerk_view c.record.new.clerk) c.now-moment.new.self)
          c.in-Err.refusal f) c.loop.invariant.of_ask);
      given = subst (λ (e : Asking). g.C.CallbackPool.gives e.ask e.kind c.args.outcome) (sym h.2.0)
          c.loop.invariant.given;
      work = λ s before. refused g.V.LockedService.setting g.C.CallbackPool.gives g.K.Clock.tells s
          (post (clerk_view c.loop.clerk) c.loop.clock) (post (clerk_view c.record.new.clerk) c.now-moment.new.self)
          (c.loop.invariant.work s before) m;
    }
