use Rattle.lra_overview.proofs.Chains.{six}
use Rattle.lra_overview.proofs.metrics.put_digits.Goals as goal

pub returns : goal.returns
returns c = six _ _ _ _ _ _ _ _ _ _ _ _ _ _ c.in_ok-put_digit.ensures c.in_ok-put_digit-2.ensures
    c.in_ok-put_digit-3.ensures c.in_ok-put_digit-4.ensures c.in_ok-put_digit-5.ensures c.put_digit-6.ensures
