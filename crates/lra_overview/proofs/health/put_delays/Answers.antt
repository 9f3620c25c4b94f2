use Rattle.lra_overview.proofs.Chains.{three}
use Rattle.lra_overview.proofs.health.put_delays.Goals as goal

pub returns : goal.returns
returns c =
    three _ _ _ _ _ _ _ _ c.in_ok-put_set.ensures c.in_ok-put.ensures c.put_sync.ensures
