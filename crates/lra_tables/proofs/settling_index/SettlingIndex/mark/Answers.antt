use Rattle.std.proofs.Common.{[], sym, subst, append-nil}
use Rattle.std.specs.Prelude.{option_to_list}
use Rattle.lra_tables.specs.inner.SettlingIndex.{MarkedBut}
use Rattle.lra_tables.proofs.Marked.{of_deed}
use Rattle.lra_tables.proofs.settling_index.SettlingIndex.mark.Goals as goal

pub returns-in-Start-clause-marked : goal.returns-in-Start-clause-marked
returns-in-Start-clause-marked c = λ K h m.
    let itself = c.mark_action.ensures.marked [] (option_to_list c.in-Start.parent)
    (of_deed _ _ K _ _ c.in-Start.is m) in
    c.mark_any.ensures.marked [] [] (subst (MarkedBut c.args.rows.now.snapshot.state c.mark_action.new.self [])
    (sym (append-nil (option_to_list c.in-Start.parent))) itself)

pub returns-in-Join-clause-marked : goal.returns-in-Join-clause-marked
returns-in-Join-clause-marked c = λ K h m. c.mark_action-in-Join.ensures.marked [] []
    (c.mark_member.ensures.marked [] _ (of_deed _ _ K _ _ c.in-Join.is m))

pub returns-in-Leave-clause-marked : goal.returns-in-Leave-clause-marked
returns-in-Leave-clause-marked c = λ K h m. c.mark_with_action.ensures.marked K h (of_deed _ _ K _ _ c.in-Leave.is m)

pub returns-in-Close-clause-marked : goal.returns-in-Close-clause-marked
returns-in-Close-clause-marked c = λ K h m. c.mark_around.ensures.marked K h (of_deed _ _ K _ _ c.in-Close.is m)

pub returns-in-Cancel-clause-marked : goal.returns-in-Cancel-clause-marked
returns-in-Cancel-clause-marked c = λ K h m. c.mark_around-in-Cancel.ensures.marked K h
    (of_deed _ _ K _ _ c.in-Cancel.is m)

pub returns-in-Skip-clause-marked : goal.returns-in-Skip-clause-marked
returns-in-Skip-clause-marked c = λ K h m. c.mark_with_action-in-Skip.ensures.marked K h
    (of_deed _ _ K _ _ c.in-Skip.is m)

pub returns-in-Ask-clause-marked : goal.returns-in-Ask-clause-marked
returns-in-Ask-clause-marked c = λ K h m. c.mark_with_action-in-Ask.ensures.marked K h (of_deed _ _ K _ _ c.in-Ask.is m)

pub returns-in-Report-clause-marked : goal.returns-in-Report-clause-marked
returns-in-Report-clause-marked c = λ K h m. c.mark_with_action-in-Report.ensures.marked K h
    (of_deed _ _ K _ _ c.in-Report.is m)

pub returns-in-End-clause-marked : goal.returns-in-End-clause-marked
returns-in-End-clause-marked c = λ K h m. c.mark_around-in-End.ensures.marked K h (of_deed _ _ K _ _ c.in-End.is m)
