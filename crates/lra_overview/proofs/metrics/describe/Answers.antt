use Rattle.lra_overview.proofs.Chains.{seven}
use Rattle.lra_overview.proofs.metrics.describe.Goals as goal

pub returns : goal.returns
returns c = seven _ _ _ _ _ _ _ _ _ _ _ _ _ _ _ _ c.in_ok-put.ensures c.in_ok-put-2.ensures c.in_ok-put-3.ensures
    c.in_ok-put-4.ensures c.in_ok-put-5.ensures c.in_ok-put-6.ensures c.put_kind.ensures
