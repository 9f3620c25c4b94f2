use Rattle.std.proofs.Common.{◌∙◌}
use Rattle.lra_journal_sets.specs.Counted.{name}
use Rattle.lra_journal_sets.proofs.Holding.{newest_last}
use Rattle.lra_journal_sets.proofs.journal_set.JournalSet.newest.Goals as goal

pub returns-clause-newest : goal.returns-clause-newest
returns-clause-newest g c =
    c.instance.ensures
    ∙ newest_last g.C.Counter.sight name c.self.inside.members.items c.args.self.now c.len-last.result
    c.index.result.now c.self.view_is c.self.invariant
    (c.len-last.ensures ∙ c.self.inside.members.ok.0) c.index.ensures
