use Rattle.lra_overview.proofs.Chains.{seven}
use Rattle.lra_overview.proofs.health.put_room.Goals as goal

pub returns : goal.returns
returns c =
    rw (← c.has_room.ensures, ← c.saturating_sub-bytes.ensures, ← c.saturating_sub-entries.ensures)
    (seven _ _ _ _ _ _ _ _ _ _ _ _ _ _ _ _ c.in_ok-begin_check.ensures c.in_ok-put.ensures c.in_ok-put_data.ensures
    c.in_ok-put-2.ensures c.in_ok-put_data-2.ensures c.in_ok-put_room_counted.ensures c.put-3.ensures)
