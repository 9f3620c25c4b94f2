use Rattle.lra_overview.proofs.Chains.{three}
use Rattle.lra_overview.proofs.health.put_ages.Goals as goal

pub returns : goal.returns
returns c =
    three _ _ _ _ _ _ _ _ c.in_ok-put_data.ensures c.in_ok-put.ensures c.put_data-2.ensures
