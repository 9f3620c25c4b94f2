use Rattle.lra_overview.proofs.Chains.{five}
use Rattle.lra_overview.proofs.health.put_ready.Goals as goal

pub returns : goal.returns
returns c =
    five _ _ _ _ _ _ _ _ _ _ _ _ c.in_ok-put_live.ensures c.in_ok-put.ensures c.in_ok-put_openings.ensures
    c.in_ok-put-2.ensures c.put_delays.ensures
