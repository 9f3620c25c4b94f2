use Rattle.lra_overview.proofs.Chains.{four}
use Rattle.lra_overview.proofs.home_page.put_counts.Goals as goal

pub returns : goal.returns
returns c = four _ _ _ _ _ _ _ _ _ _ c.in_ok-put_all.ensures c.in_ok-put_shares.ensures c.in_ok-put_overdue.ensures
    c.put_title.ensures
