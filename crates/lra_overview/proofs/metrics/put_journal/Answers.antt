use Rattle.lra_overview.proofs.Chains.{four}
use Rattle.lra_overview.specs.Measures.{journal}
use Rattle.lra_overview.proofs.metrics.put_journal.Goals as goal

pub returns : goal.returns
unfolding journal
returns c =
    rw (← c.number_of.ensures)
    (four _ _ _ _ _ _ _ _ _ _ c.in_ok-whole.ensures c.in_ok-whole-2.ensures c.in_ok-whole-3.ensures
    c.whole-4.ensures)
