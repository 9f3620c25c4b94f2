use Rattle.lra_journal_router.specs.JournalRouters.{KeepsBase, Moved}
use Rattle.lra_registry.proofs.set_members.SetMembers.leave_all.Given as goal

-- the leaves so far are steps of a journal set that keep its base
abbrev pub invariant-loop-instance : goal.invariant-loop-instance
invariant-loop-instance g l = Moved l.fn.journal_set l.journal_set × KeepsBase l.fn.journal_set l.journal_set
