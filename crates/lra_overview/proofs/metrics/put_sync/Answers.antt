use Rattle.lra_overview.proofs.Chains.{five}
use Rattle.lra_overview.specs.Measures.{sync}
use Rattle.lra_overview.proofs.metrics.put_sync.Goals as goal

pub returns : goal.returns
unfolding sync
returns c =
    rw (← c.number_of.ensures)
    (five _ _ _ _ _ _ _ _ _ _ _ _ c.in_ok-parts.ensures c.in_ok-describe.ensures c.in_ok-put_line.ensures
    c.in_ok-put_line-2.ensures c.whole.ensures)
