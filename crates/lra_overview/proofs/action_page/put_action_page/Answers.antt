use Rattle.lra_overview.proofs.Chains.{seven}
use Rattle.lra_overview.specs.Pages.{action}
use Rattle.lra_overview.proofs.action_page.put_action_page.Goals as goal

pub returns : goal.returns
unfolding action
returns c = seven _ _ _ _ _ _ _ _ _ _ _ _ _ _ _ _ c.in_ok-begin.ensures c.in_ok-put_heading.ensures
    c.in_ok-put_parent.ensures c.in_ok-put_cancel.ensures c.in_ok-put_all.ensures c.in_ok-put_tree.ensures
    c.put_members.ensures
