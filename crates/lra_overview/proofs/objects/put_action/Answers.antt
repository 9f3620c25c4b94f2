use Rattle.lra_overview.proofs.Chains.{six}
use Rattle.lra_overview.specs.Lists.{action}
use Rattle.lra_overview.proofs.objects.put_action.Goals as goal

pub returns : goal.returns
unfolding action
returns c = six _ _ _ _ _ _ _ _ _ _ _ _ _ _ c.in_ok-put_head.ensures c.in_ok-put_all.ensures c.in_ok-put_members.ensures
    c.in_ok-put_all-2.ensures c.in_ok-put_rows.ensures c.put_cut.ensures
