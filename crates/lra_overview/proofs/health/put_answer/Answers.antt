use Rattle.lra_overview.proofs.Chains.{six}
use Rattle.lra_overview.proofs.health.put_answer.Goals as goal

pub returns : goal.returns
returns c = six _ _ _ _ _ _ _ _ _ _ _ _ _ _ c.in_ok-begin_check.ensures c.in_ok-put.ensures c.in_ok-put_data.ensures
    c.in_ok-put-2.ensures c.in_ok-put_data-2.ensures c.put-3.ensures
