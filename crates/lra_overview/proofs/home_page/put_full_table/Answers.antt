use Rattle.lra_overview.proofs.Chains.{three}
use Rattle.lra_overview.proofs.home_page.put_full_table.Goals as goal

pub returns : goal.returns
returns c = three _ _ _ _ _ _ _ _ c.in_ok-put_all.ensures c.in_ok-put_rows.ensures c.put_all-2.ensures
