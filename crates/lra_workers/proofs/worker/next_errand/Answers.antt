use Rattle.std.proofs.Common.{refl, sym, arith}
use Rattle.lra_office.specs.Clerks.{clerk_view}
use Rattle.lra_workers.proofs.Working.{asked, asked_of_ask, known_number}
use Rattle.lra_workers.proofs.worker.next_errand.Goals as goal

pub returns-clause-of_ask : goal.returns-clause-of_ask
returns-clause-of_ask g c =
    asked_of_ask c.errands_are_of_asks.ensures (g.V.LockedService.setting (clerk_view c.args.clerk.now).origin)
    (clerk_view c.args.clerk.now) (clerk_view c.next_ask.new.clerk) _ c.next_ask.result
    (record { moment = omega (arith, c.now-moment.type_inv); fits = refl }) c.next_ask.ensures.errand

pub returns-clause-work : goal.returns-clause-work
returns-clause-work g c = λ s before.
    asked g.V.LockedService.setting g.C.Courier.gives g.K.Clock.tells s (clerk_view c.args.clerk.now)
    (clerk_view c.next_ask.new.clerk) c.args.clock.now c.now-moment.new.self
    _ c.next_ask.result c.next_ask.ensures.errand before (sym c.requires.number)
    (known_number _ _ c.requires.number c.requires.enrolled) tt (λ J. refl) c.now-moment.ensures
