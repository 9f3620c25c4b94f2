use Rattle.lra_overview.proofs.Chains.{three}
use Rattle.lra_overview.specs.Measures.{totals}
use Rattle.lra_overview.proofs.metrics.put_totals.Goals as goal

pub returns : goal.returns
unfolding totals
returns c = three _ _ _ _ _ _ _ _ c.in_ok-whole.ensures c.in_ok-whole-2.ensures c.whole-3.ensures
