use Rattle.std.proofs.Common.{◌∷◌, ◌++◌, []}
use Rattle.std.proofs.lemmas.Result.{on_ok_weaker}
use Rattle.lra_model.specs.Settling.{with_settling}
use Rattle.lra_tables.proofs.Settles.{settles_start}
use Rattle.lra_tables.proofs.settling_state.SettlingState.settle_rest.Goals as goal

pub returns-clause-whole : goal.returns-clause-whole
returns-clause-whole c = on_ok_weaker c.settle_all.result
    (λ whole J e v t l k stands by m first. whole J (with_settling J e)
    (settles_start J e c.args.self.now c.in_ok-most.most c.args.by c.args.moment c.args.undo_log.now.entries.items v t
    l k stands (c.in_ok-most.ensures (J ++ e ∷ []) stands) by m first))
    c.settle_all.ensures.whole
