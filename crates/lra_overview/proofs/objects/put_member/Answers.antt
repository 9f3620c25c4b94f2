use Rattle.lra_overview.proofs.Chains.{seven}
use Rattle.lra_overview.specs.Lists.{member}
use Rattle.lra_overview.proofs.objects.put_member.Goals as goal

pub returns : goal.returns
unfolding member
returns c = seven _ _ _ _ _ _ _ _ _ _ _ _ _ _ _ _ c.in_ok-put_all.ensures c.in_ok-put_number_if.ensures
    c.in_ok-put_all-2.ensures c.in_ok-put_want.ensures c.in_ok-put_all-3.ensures c.in_ok-put_last.ensures
    c.put_all-4.ensures
