use Rattle.lra_overview.proofs.Chains.{five}
use Rattle.lra_overview.proofs.objects.put_text.Goals as goal

pub returns : goal.returns
returns c = five _ _ _ _ _ _ _ _ _ _ _ _ c.in_ok-put.ensures c.in_ok-put-2.ensures c.in_ok-put-3.ensures
    c.in_ok-put_json.ensures c.put-4.ensures
