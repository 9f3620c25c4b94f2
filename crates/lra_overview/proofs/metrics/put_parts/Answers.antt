use Rattle.lra_overview.proofs.Chains.{three}
use Rattle.lra_overview.proofs.metrics.put_parts.Goals as goal

pub returns : goal.returns
returns c =
    rw (← c.ones.ensures, ← c.rest.ensures)
    (three _ _ _ _ _ _ _ _ c.in_ok-put_number.ensures c.in_ok-put.ensures c.put_digits.ensures)
