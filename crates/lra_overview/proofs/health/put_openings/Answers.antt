use Rattle.lra_overview.proofs.Chains.{three}
use Rattle.lra_overview.proofs.health.put_openings.Goals as goal

pub returns : goal.returns
returns c = three _ _ _ _ _ _ _ _ c.in_ok-put_room.ensures c.in_ok-put.ensures c.put_starts.ensures
