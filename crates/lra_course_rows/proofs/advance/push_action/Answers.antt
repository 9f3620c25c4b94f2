use Rattle.std.proofs.Common.{sym, ◌∙◌}
use Rattle.lra_laws.specs.Rows.{with_new_child}
use Rattle.lra_course_rows.proofs.Index.{change_row-pushed}
use Rattle.lra_course_rows.proofs.advance.push_action.Goals as goal

pub returns-clause-ok : goal.returns-clause-ok
returns-clause-ok c =
    rw (c.set_action.ensures, c.in_ok-push-3.ensures.items, c.in-Some.is, c.with_new_child.ensures)
    (change_row-pushed with_new_child c.in-Some.number c.args.actions.now.items c.in-Some-action_at.holder c.args.row
    (rw c.deref.ensures.value at (sym c.action_at.ensures ∙ c.in-Some-action_at.is)))
