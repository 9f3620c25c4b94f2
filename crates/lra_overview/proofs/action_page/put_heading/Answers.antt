use Rattle.lra_overview.proofs.Chains.{three}
use Rattle.lra_overview.proofs.action_page.put_heading.Goals as goal

pub returns : goal.returns
returns c = three _ _ _ _ _ _ _ _ c.in_ok-put_all.ensures c.in_ok-put_wait.ensures c.put_all-2.ensures
