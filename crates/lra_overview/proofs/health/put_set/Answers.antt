use Rattle.lra_overview.proofs.Chains.{two}
use Rattle.lra_overview.proofs.health.put_set.Goals as goal

pub returns : goal.returns
returns c =
    rw (← c.follows.ensures, ← c.set_data.ensures) (two _ _ _ _ _ _ c.in_ok-begin_check.ensures c.put.ensures)
