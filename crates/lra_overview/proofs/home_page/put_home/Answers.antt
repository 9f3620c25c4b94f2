use Rattle.lra_overview.proofs.Chains.{five}
use Rattle.lra_overview.specs.Pages.{home}
use Rattle.lra_overview.proofs.home_page.put_home.Goals as goal

pub returns : goal.returns
unfolding home
returns c = five _ _ _ _ _ _ _ _ _ _ _ _ c.in_ok-begin.ensures c.in_ok-put_counts.ensures c.in_ok-put_table.ensures
    c.in_ok-put_next.ensures c.put_all.ensures
