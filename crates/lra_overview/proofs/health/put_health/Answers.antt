use Rattle.lra_overview.proofs.Chains.{five}
use Rattle.lra_overview.specs.Health.{health}
use Rattle.lra_overview.proofs.health.put_health.Goals as goal

pub returns : goal.returns
unfolding health
returns c =
    rw (← c.is_up.ensures, ← c.word.ensures)
    (five _ _ _ _ _ _ _ _ _ _ _ _ c.in_ok-put.ensures c.in_ok-put-2.ensures c.in_ok-put-3.ensures
    c.in_ok-put_checks.ensures c.put-4.ensures)
