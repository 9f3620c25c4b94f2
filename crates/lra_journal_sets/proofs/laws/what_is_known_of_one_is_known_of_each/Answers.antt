use Rattle.lra_journal_sets.proofs.Serving.{each_keeps}
use Rattle.lra_journal_sets.proofs.laws.what_is_known_of_one_is_known_of_each.Goals as goal

pub returns : goal.returns
returns g c = each_keeps g.C.Counter.gives g.met.C.Counter.keeps
