use Rattle.lra_overview.proofs.Chains.{two}
use Rattle.lra_overview.specs.Pages.{plain}
use Rattle.lra_overview.proofs.page_parts.put_plain_page.Goals as goal

pub returns : goal.returns
unfolding plain
returns c = two _ _ _ _ _ _ c.in_ok-begin.ensures c.put_all.ensures
