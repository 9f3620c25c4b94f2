use Rattle.lra_overview.proofs.Chains.{three}
use Rattle.lra_overview.proofs.home_page.put_asked_cells.Goals as goal

pub returns : goal.returns
returns c = three _ _ _ _ _ _ _ _ c.in_ok-put_waits.ensures c.in_ok-put_all.ensures c.put_next_ask.ensures
