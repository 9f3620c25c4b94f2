use Rattle.lra_overview.proofs.Chains.{four}
use Rattle.lra_overview.proofs.health.put_data.Goals as goal

pub returns : goal.returns
returns c = four _ _ _ _ _ _ _ _ _ _ c.in_ok-put.ensures c.in_ok-put-2.ensures c.in_ok-put-3.ensures
    c.put_number.ensures
