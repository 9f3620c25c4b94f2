use Rattle.lra_overview.proofs.Chains.{three}
use Rattle.lra_overview.proofs.metrics.put_line.Goals as goal

pub returns : goal.returns
returns c = three _ _ _ _ _ _ _ _ c.in_ok-labelled.ensures c.in_ok-put_number.ensures c.put.ensures
