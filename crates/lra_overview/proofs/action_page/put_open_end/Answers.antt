use Rattle.lra_overview.proofs.Chains.{two}
use Rattle.lra_overview.proofs.action_page.put_open_end.Goals as goal

pub returns : goal.returns
returns c = two _ _ _ _ _ _ c.in_ok-put_all.ensures c.put_awaited.ensures
