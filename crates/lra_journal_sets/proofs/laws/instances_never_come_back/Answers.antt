use Rattle.lra_journal_sets.specs.Counted.{name}
use Rattle.lra_journal_sets.specs.Serving.{names, Does, Lacks}
use Rattle.lra_journal_sets.proofs.Running.{instances_apart}
use Rattle.lra_journal_sets.proofs.Serving.{keeps_name}
use Rattle.lra_journal_sets.proofs.laws.instances_never_come_back.Goals as goal

pub returns : goal.returns
returns g c = instances_apart name names (Does g.C.Counter.gives) Lacks
    (keeps_name g.C.Counter.gives g.met.C.Counter.keeps)
