use Rattle.std.proofs.Common.{sym, ◌∙◌}
use Rattle.lra_states.proofs.Counting.{AllCountTo-with_row, CountsTo-status}
use Rattle.lra_course_rows.proofs.state.Rows.set_status.Goals as goal

pub count_child-requires : goal.count_child-requires
count_child-requires c =
    let there = (rw (← c.self.view_is) at (sym c.action.ensures ∙ c.in-Some.is)) in
    rw (c.set_action.ensures, c.turned.ensures) (AllCountTo-with_row 18446744073709551614 _ c.args.action c.in-Some.row
    _ (rw (← c.self.view_is) at c.requires) there (CountsTo-status 18446744073709551614 c.in-Some.row c.args.status
    (rw there at ((rw (← c.self.view_is) at c.requires) c.args.action))))
