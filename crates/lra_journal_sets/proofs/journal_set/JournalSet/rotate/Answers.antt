use Rattle.lra_journal_sets.specs.Counted.{name}
use Rattle.lra_journal_sets.proofs.Holding.{joined_journal_set}
use Rattle.lra_journal_sets.proofs.journal_set.JournalSet.rotate.Goals as goal

pub invariant_of-self-2 : goal.invariant_of-self-2
invariant_of-self-2 g c =
    joined_journal_set g.C.Counter.sight name c.self.inside.members.items _ c.args.self.now c.args.counter
    c.self.view_is
    c.in_ok-push.ensures.items c.self.invariant c.requires
