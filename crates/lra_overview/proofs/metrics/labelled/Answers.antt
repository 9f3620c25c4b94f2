use Rattle.lra_overview.proofs.Chains.{six}
use Rattle.lra_overview.proofs.metrics.labelled.Goals as goal

pub returns : goal.returns
returns c = six _ _ _ _ _ _ _ _ _ _ _ _ _ _ c.in_ok-put.ensures c.in_ok-put-2.ensures c.in_ok-put-3.ensures
    c.in_ok-put-4.ensures c.in_ok-put-5.ensures c.put-6.ensures
