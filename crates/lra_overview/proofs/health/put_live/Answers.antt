use Rattle.lra_overview.proofs.Chains.{five}
use Rattle.lra_overview.proofs.health.put_live.Goals as goal

pub returns : goal.returns
returns c =
    five _ _ _ _ _ _ _ _ _ _ _ _ c.in_ok-put_journal.ensures c.in_ok-put.ensures c.in_ok-put_lock.ensures
    c.in_ok-put-2.ensures c.put_threads.ensures
