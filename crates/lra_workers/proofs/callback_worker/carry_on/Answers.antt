use Rattle.lra_workers.proofs.Holding.{same_asks}
use Rattle.lra_workers.proofs.callback_worker.carry_on.Goals as goal

pub record_done-requires-clause-held : goal.record_done-requires-clause-held
record_done-requires-clause-held g c =
    same_asks g.V.LockedService.covers _ (g.C.CallbackPool.held c.args.callback_pool.now)
    (g.C.CallbackPool.held c.carry.new.self)
    c.carry.ensures c.requires.held
