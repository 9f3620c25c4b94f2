use Rattle.std.proofs.Common.{refl, sym, ap, ◌∙◌, subst, Err}
use Rattle.std.specs.Prelude.{Result}
use Rattle.std.specs.Result.{MatchResult}
use Rattle.std.proofs.lemmas.Result.{err_from_is_err_and}
use Rattle.lra_office.specs.Clerks.{clerk_view}
use Rattle.lra_office.specs.declared.fault.OfficeRefusal.{OfficeRefusal}
use Rattle.lra_workers.specs.Work.{post, Works, WorksUpTo}
use Rattle.lra_workers.proofs.Refusing.{never_late}
use Rattle.lra_workers.proofs.Working.{works_on, does, fails, known_number}
use Rattle.lra_workers.proofs.worker.fire.Goals as goal

pub returns-in_err-tick-clause-work : goal.returns-in_err-tick-clause-work
returns-in_err-tick-clause-work g c = λ s before.
    let p = err_from_is_err_and c.from_residual.result c.from_residual.ensures.1 in
    let now = post (clerk_view c.tick.new.clerk) c.now-moment.new.self in
    let f = fails g.V.LockedService.setting g.C.Courier.gives g.K.Clock.tells (clerk_view c.loop.clerk)
    (clerk_view c.tick.new.clerk) c.loop.clock c.now-moment.new.self
    _ c.in_err-tick.field-0.0 (sym c.loop.invariant.clerk.number) tt c.now-moment.ensures c.in_err-tick.ensures.told in
    let last = never_late g.C.Courier.gives (g.V.LockedService.setting (clerk_view c.loop.clerk).origin)
    (clerk_view c.loop.clerk) (clerk_view c.tick.new.clerk) _ c.in_err-tick.field-0.0 c.in_err-tick.ensures.told
    (sym c.loop.invariant.clerk.number) (known_number _ _ c.loop.invariant.clerk.number c.loop.invariant.clerk.enrolled)
    tt (λ J. refl) in
    let told : WorksUpTo g.V.LockedService.setting g.C.Courier.gives g.K.Clock.tells s c.in_err-tick.field-0.0 now =
    (post (clerk_view c.loop.clerk) c.loop.clock, c.loop.invariant.work s before, f, last) in
    subst (λ (r : Result (Unit {0}) OfficeRefusal). MatchResult r
    (λ _. Works g.V.LockedService.setting g.C.Courier.gives
    g.K.Clock.tells s now) (λ x. WorksUpTo g.V.LockedService.setting g.C.Courier.gives g.K.Clock.tells s x now))
    (sym (p.1 ∙ ap Err p.2)) told

pub returns-then-eq-clause-work : goal.returns-then-eq-clause-work
returns-then-eq-clause-work g c = λ s before.
    let h = c.in_ok-tick.ensures.told in
    let d = does g.V.LockedService.setting g.C.Courier.gives g.K.Clock.tells (clerk_view c.loop.clerk)
    (clerk_view c.tick.new.clerk) c.loop.clock c.now-moment.new.self
    _ c.in_ok-tick.field-0 h.0 (sym c.loop.invariant.clerk.number) tt c.now-moment.ensures h.1 in
    works_on g.V.LockedService.setting g.C.Courier.gives g.K.Clock.tells s (post (clerk_view c.loop.clerk) c.loop.clock)
    (post (clerk_view c.tick.new.clerk) c.now-moment.new.self) (c.loop.invariant.work s before) d

pub loop-preserved : goal.loop-preserved
loop-preserved g c =
    let h = c.in_ok-tick.ensures.told in
    let d = does g.V.LockedService.setting g.C.Courier.gives g.K.Clock.tells (clerk_view c.loop.clerk)
    (clerk_view c.tick.new.clerk) c.loop.clock c.now-moment.new.self
    _ c.in_ok-tick.field-0 h.0 (sym c.loop.invariant.clerk.number) tt c.now-moment.ensures h.1 in
    record {
      clerk = c.tick.ensures.clerk;
      number = c.tick.ensures.number ∙ c.loop.invariant.number;
      work = λ s before.
          works_on g.V.LockedService.setting g.C.Courier.gives g.K.Clock.tells s
          (post (clerk_view c.loop.clerk) c.loop.clock)
          (post (clerk_view c.tick.new.clerk) c.now-moment.new.self) (c.loop.invariant.work s before) d;
    }
