use Rattle.lra_overview.proofs.Chains.{three}
use Rattle.lra_overview.proofs.metrics.put_left.Goals as goal

pub returns : goal.returns
returns c =
    rw (← c.left.ensures)
    (three _ _ _ _ _ _ _ _ c.in_ok-labelled.ensures c.in_ok-put_parts.ensures c.put.ensures)
