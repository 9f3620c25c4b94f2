use Rattle.lra_overview.proofs.Chains.{two}
use Rattle.lra_overview.specs.Measures.{traffic}
use Rattle.lra_overview.proofs.metrics.put_traffic.Goals as goal

pub returns : goal.returns
unfolding traffic
returns c = two _ _ _ _ _ _ c.in_ok-whole.ensures c.whole-2.ensures
