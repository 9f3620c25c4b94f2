use Rattle.std.proofs.Common.{ℕ, ◌++◌, Option, subst}
use Rattle.std.specs.Prelude.{option_to_list}
use Rattle.lra_tables.specs.inner.SettlingIndex.{MarkedBut}
use Rattle.lra_tables.proofs.settling_index.SettlingIndex.mark_any.Goals as goal

pub returns-in-Some-clause-marked : goal.returns-in-Some-clause-marked
returns-in-Some-clause-marked c = λ ps xs m.
    c.mark_action.ensures.marked ps xs
    (subst (λ (o : Option ℕ). MarkedBut c.args.rows.now.snapshot.state c.args.self.now ps (option_to_list o ++ xs))
    c.in-Some.is m)
