use Rattle.lra_overview.proofs.Chains.{four}
use Rattle.lra_overview.proofs.objects.put_head.Goals as goal

pub returns : goal.returns
returns c = four _ _ _ _ _ _ _ _ _ _ c.in_ok-put_all.ensures c.in_ok-put_maybe.ensures c.in_ok-put_all-2.ensures
    c.put_awaited.ensures
