use Rattle.lra_overview.proofs.Chains.{four}
use Rattle.lra_overview.specs.Measures.{histories}
use Rattle.lra_overview.proofs.metrics.put_histories.Goals as goal

pub returns : goal.returns
unfolding histories
returns c = four _ _ _ _ _ _ _ _ _ _ c.in_ok-put_counts.ensures c.in_ok-put_overdue.ensures
    c.in_ok-put_untold.ensures c.parts.ensures
