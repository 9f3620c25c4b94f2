use Rattle.lra_overview.proofs.Chains.{four}
use Rattle.lra_overview.proofs.health.put_room_left.Goals as goal

pub returns : goal.returns
returns c =
    rw (← c.saturating_sub-actions.ensures, ← c.saturating_sub-members.ensures)
    (four _ _ _ _ _ _ _ _ _ _ c.in_ok-put.ensures c.in_ok-put_data.ensures c.in_ok-put-2.ensures c.put_data-2.ensures)
