use Rattle.lra_overview.proofs.Chains.{four}
use Rattle.lra_overview.specs.Measures.{overdue}
use Rattle.lra_overview.proofs.metrics.put_overdue.Goals as goal

pub returns : goal.returns
unfolding overdue
returns c = four _ _ _ _ _ _ _ _ _ _ c.in_ok-describe.ensures c.in_ok-put_line.ensures c.in_ok-put_line-2.ensures
    c.whole.ensures
