use Rattle.lra_overview.proofs.Chains.{seven}
use Rattle.lra_overview.specs.Pages.{line}
use Rattle.lra_overview.proofs.action_page.put_member.Goals as goal

pub returns : goal.returns
unfolding line
returns c = seven _ _ _ _ _ _ _ _ _ _ _ _ _ _ _ _ c.in_ok-put_all.ensures c.in_ok-put_next_ask.ensures
    c.in_ok-put_all-2.ensures c.in_ok-put_tried.ensures c.in_ok-put_all-3.ensures c.in_ok-put_give_up.ensures
    c.put_all-4.ensures
