use Rattle.lra_overview.proofs.Chains.{seven}
use Rattle.lra_overview.specs.Pages.{waiting}
use Rattle.lra_overview.proofs.home_page.put_waiting.Goals as goal

pub returns : goal.returns
unfolding waiting
returns c = seven _ _ _ _ _ _ _ _ _ _ _ _ _ _ _ _ c.in_ok-put_all.ensures c.in_ok-put_age.ensures
    c.in_ok-put_all-2.ensures c.in_ok-put_wait_cells.ensures c.in_ok-put_all-3.ensures c.in_ok-put_cancel.ensures
    c.put_all-4.ensures
