use Rattle.lra_overview.proofs.Chains.{two}
use Rattle.lra_overview.proofs.svg.put_node.Goals as goal

pub returns : goal.returns
returns c = two _ _ _ _ _ _ c.in_ok-put_branch.ensures c.put_mark.ensures
