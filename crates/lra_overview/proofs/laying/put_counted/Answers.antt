use Rattle.lra_overview.proofs.Chains.{two}
use Rattle.lra_overview.proofs.laying.put_counted.Goals as goal

pub returns : goal.returns
returns c = two _ _ _ _ _ _ c.in_ok-put_number.ensures c.put.ensures
