use Rattle.lra_overview.proofs.Chains.{five}
use Rattle.lra_overview.proofs.health.put_threads.Goals as goal

pub returns : goal.returns
returns c =
    rw (← c.has_threads.ensures)
    (five _ _ _ _ _ _ _ _ _ _ _ _ c.in_ok-begin_check.ensures c.in_ok-put.ensures c.in_ok-put_lost.ensures
    c.in_ok-put_standing.ensures c.put-2.ensures)
