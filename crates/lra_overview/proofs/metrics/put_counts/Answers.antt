use Rattle.lra_overview.proofs.Chains.{three}
use Rattle.lra_overview.specs.Measures.{counts}
use Rattle.lra_overview.proofs.metrics.put_counts.Goals as goal

pub returns : goal.returns
unfolding counts
returns c = three _ _ _ _ _ _ _ _ c.in_ok-describe.ensures c.in_ok-put_shares.ensures c.put_totals.ensures
