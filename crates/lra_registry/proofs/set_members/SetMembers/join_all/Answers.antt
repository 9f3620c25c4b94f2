use Rattle.lra_registry.proofs.Grows.{keeps_on, moved_on}
use Rattle.lra_registry.proofs.set_members.SetMembers.join_all.Goals as goal
use Rattle.lra_registry.proofs.set_members.SetMembers.join_all.Goals.{else-number-via-then-number+else-not-join}
use Rattle.lra_registry.proofs.set_members.SetMembers.join_all.Goals.{else-number-via-else-number}

pub returns-then-not-join-clause-moved : goal.returns-then-not-join-clause-moved
returns-then-not-join-clause-moved g c = moved_on _ _ _ c.loop-journal.invariant.0 c.join.ensures.moved

pub returns-then-not-join-clause-base : goal.returns-then-not-join-clause-base
returns-then-not-join-clause-base g c = keeps_on _ _ _ c.loop-journal.invariant.1 c.join.ensures.base

pub loop-journal-preserved : goal.loop-journal-preserved
loop-journal-preserved g c =
    elim c.else-number.branch [
      | else-number-via-then-number+else-not-join w ↦ rw w.journal_set-is (
        moved_on _ _ _ c.loop-journal.invariant.0 w.join.ensures.moved,
        keeps_on _ _ _ c.loop-journal.invariant.1 w.join.ensures.base,
      )
      | else-number-via-else-number w ↦ rw w.journal_set-is c.loop-journal.invariant
    ]
