use Rattle.lra_overview.proofs.Chains.{two}
use Rattle.lra_overview.specs.Measures.{metrics}
use Rattle.lra_overview.proofs.metrics.put_metrics.Goals as goal

pub returns : goal.returns
unfolding metrics
returns c = two _ _ _ _ _ _ c.in_ok-put_histories.ensures c.put_service.ensures
