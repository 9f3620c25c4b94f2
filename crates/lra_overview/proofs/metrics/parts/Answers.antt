use Rattle.lra_overview.proofs.Chains.{five}
use Rattle.lra_overview.proofs.metrics.parts.Goals as goal

pub returns : goal.returns
returns c = five _ _ _ _ _ _ _ _ _ _ _ _ c.in_ok-describe.ensures c.in_ok-put.ensures c.in_ok-put-2.ensures
    c.in_ok-put_parts.ensures c.put-3.ensures
