use Rattle.std.proofs.Common.{◌∙◌, ap}
use Rattle.lra_tables.specs.inner.Boarded.{Boarded}
use Rattle.lra_tables.proofs.Boards.{next_by_marks}
use Rattle.lra_tables.proofs.settling_state.SettlingState.next_settling.Goals as goal

pub returns : goal.returns
returns c = λ J h.
    c.choose.ensures
    ∙ next_by_marks c.self.inside.rows.snapshot.state c.self.inside.settling_index c.args.self.now.rows.snapshot J h
    (ap (λ (b : Boarded). b.rows.snapshot.state) c.self.view_is) c.self.invariant c.first.result c.first-2.result
    c.first-3.result
    (record { some = c.first.ensures.some; none = c.first.ensures.none })
    (record { some = c.first-2.ensures.some; none = c.first-2.ensures.none })
    (record { some = c.first-3.ensures.some; none = c.first-3.ensures.none })
