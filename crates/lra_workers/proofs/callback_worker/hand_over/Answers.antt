use Rattle.std.proofs.Common.{ℕ, sym, subst}
use Rattle.std.specs.Prelude.{IsTrue}
use Rattle.lra_office.specs.Clerks.{clerk_view}
use Rattle.lra_workers.specs.Work.{post}
use Rattle.lra_workers.proofs.Holding.{asks_stay, same_asks, gained_asks, carried}
use Rattle.lra_workers.proofs.callback_worker.hand_over.Goals as goal

pub returns-in-Ok-clause-held : goal.returns-in-Ok-clause-held
returns-in-Ok-clause-held g c =
    let origin = (clerk_view c.args.clerk.now).origin in
    let seen = (clerk_view c.args.clerk.now).seen in
    gained_asks g.V.LockedService.covers seen (g.C.CallbackPool.held c.args.callback_pool.now)
    (g.C.CallbackPool.held c.take.new.self)
    (c.args.errand, c.position.result) c.in-Ok.ensures.ok
    (record {
      of_ask = c.requires.of_ask;
      told = record {
        origin = origin;
        seen = seen;
        of_ask = c.requires.of_ask;
        covered = subst (λ (n : ℕ). IsTrue (g.V.LockedService.covers origin seen n)) (sym c.position.ensures)
            c.requires.clerk.covered;
      };
    })
    c.requires.held

pub returns-in-Err-clause-held : goal.returns-in-Err-clause-held
returns-in-Err-clause-held g c =
    asks_stay g.V.LockedService.covers _ _ (g.C.CallbackPool.held c.take.new.self)
    (carried g.V.LockedService.setting g.C.CallbackPool.gives g.K.Clock.tells (post (clerk_view c.args.clerk.now)
    c.args.clock.now) (post (clerk_view c.note.new.clerk) c.note.new.clock) c.note.result c.note.ensures.work)
    (same_asks g.V.LockedService.covers _ _ _ c.in-Err.ensures.err.1 c.requires.held)
