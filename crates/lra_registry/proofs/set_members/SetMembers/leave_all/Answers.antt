use Rattle.lra_registry.proofs.Grows.{keeps_on, moved_on}
use Rattle.lra_registry.proofs.set_members.SetMembers.leave_all.Goals as goal
use Rattle.lra_registry.proofs.set_members.SetMembers.leave_all.Goals.{then-not-is_among, else-not-is_among}

pub loop-instance-preserved : goal.loop-instance-preserved
loop-instance-preserved g c =
    elim c.if-not-is_among.branch [
      | then-not-is_among w ↦ rw w.journal_set-is (
        moved_on _ _ _ c.loop-instance.invariant.0 w.remove_member.ensures.moved,
        keeps_on _ _ _ c.loop-instance.invariant.1 w.remove_member.ensures.base,
      )
      | else-not-is_among w ↦ rw w.journal_set-is c.loop-instance.invariant
    ]
