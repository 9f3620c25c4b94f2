use Rattle.lra_overview.proofs.Chains.{five}
use Rattle.lra_overview.specs.Measures.{service}
use Rattle.lra_overview.proofs.metrics.put_service.Goals as goal

pub returns : goal.returns
unfolding service
returns c = five _ _ _ _ _ _ _ _ _ _ _ _ c.in_ok-put_journal.ensures c.in_ok-put_sync.ensures
    c.in_ok-put_room.ensures c.in_ok-put_traffic.ensures c.put_process.ensures
