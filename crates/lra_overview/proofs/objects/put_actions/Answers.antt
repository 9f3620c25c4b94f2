use Rattle.lra_overview.proofs.Chains.{five}
use Rattle.lra_overview.specs.Lists.{actions}
use Rattle.lra_overview.proofs.objects.put_actions.Goals as goal

pub returns : goal.returns
unfolding actions
returns c = five _ _ _ _ _ _ _ _ _ _ _ _ c.in_ok-put_all.ensures c.in_ok-put_rows.ensures c.in_ok-put_all-2.ensures
    c.in_ok-put_maybe.ensures c.put_all-3.ensures
