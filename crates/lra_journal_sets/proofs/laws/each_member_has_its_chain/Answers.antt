use Rattle.lra_journal_sets.specs.Counted.{name}
use Rattle.lra_journal_sets.specs.Serving.{names, Does, Lacks}
use Rattle.lra_journal_sets.proofs.Running.{each_chain, others, cut}
use Rattle.lra_journal_sets.proofs.Serving.{keeps_name}
use Rattle.lra_journal_sets.proofs.laws.each_member_has_its_chain.Goals as goal

pub returns-clause-chains : goal.returns-clause-chains
returns-clause-chains g c = each_chain name names (Does g.C.Counter.gives) Lacks
    (keeps_name g.C.Counter.gives g.met.C.Counter.keeps)

pub returns-clause-others : goal.returns-clause-others
returns-clause-others g c = others name names (Does g.C.Counter.gives) Lacks
    (keeps_name g.C.Counter.gives g.met.C.Counter.keeps)

pub returns-clause-cut : goal.returns-clause-cut
returns-clause-cut g c = cut name names (Does g.C.Counter.gives) Lacks
    (keeps_name g.C.Counter.gives g.met.C.Counter.keeps)
