use Rattle.lra_journal_router.specs.JournalRouters.{KeepsBase, Moved}
use Rattle.lra_registry.proofs.set_members.SetMembers.join_all.Given as goal

-- the joins so far are steps of a journal set that keep its base
abbrev pub invariant-loop-journal : goal.invariant-loop-journal
invariant-loop-journal g l = Moved l.fn.journal_set l.journal_set × KeepsBase l.fn.journal_set l.journal_set
