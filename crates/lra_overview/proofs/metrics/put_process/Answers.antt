use Rattle.lra_overview.proofs.Chains.{four}
use Rattle.lra_overview.specs.Measures.{process}
use Rattle.lra_overview.proofs.metrics.put_process.Goals as goal

pub returns : goal.returns
unfolding process
returns c = four _ _ _ _ _ _ _ _ _ _ c.in_ok-parts.ensures c.in_ok-parts_if.ensures c.in_ok-whole_if.ensures
    c.whole_if-2.ensures
