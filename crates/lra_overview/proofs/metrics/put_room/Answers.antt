use Rattle.lra_overview.proofs.Chains.{five}
use Rattle.lra_overview.specs.Measures.{room}
use Rattle.lra_overview.proofs.metrics.put_room.Goals as goal

pub returns : goal.returns
unfolding room
returns c = five _ _ _ _ _ _ _ _ _ _ _ _ c.in_ok-describe.ensures c.in_ok-put_left.ensures
    c.in_ok-put_left-2.ensures c.in_ok-put_left-3.ensures c.put_left-4.ensures
