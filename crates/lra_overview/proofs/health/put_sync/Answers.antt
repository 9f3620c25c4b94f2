use Rattle.lra_overview.proofs.Chains.{four}
use Rattle.lra_overview.proofs.health.put_sync.Goals as goal

pub returns : goal.returns
returns c =
    rw (← c.syncs_in_time.ensures) (four _ _ _ _ _ _ _ _ _ _ c.in_ok-begin_check.ensures c.in_ok-put.ensures
    c.in_ok-put_ages.ensures c.put-2.ensures)
