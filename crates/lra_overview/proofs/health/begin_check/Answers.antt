use Rattle.lra_overview.proofs.Chains.{five}
use Rattle.lra_overview.proofs.health.begin_check.Goals as goal

pub returns : goal.returns
returns c =
    rw (← c.word.ensures)
    (five _ _ _ _ _ _ _ _ _ _ _ _ c.in_ok-put.ensures c.in_ok-put-2.ensures c.in_ok-put-3.ensures c.in_ok-put-4.ensures
    c.put-5.ensures)
