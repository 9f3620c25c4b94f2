use Rattle.std.proofs.Common.{refl}
use Rattle.lra_course_rows.proofs.Index.{IsIndex-pushed}
use Rattle.lra_course_rows.proofs.state.Rows.join.Goals as goal

pub count_new_member-requires : goal.count_new_member-requires
count_new_member-requires c = (rw (← c.self.view_is) at c.requires)

pub invariant_of-self-2 : goal.invariant_of-self-2
invariant_of-self-2 c = rw c.in_ok-push.ensures.items (IsIndex-pushed _ _ _ _ c.self.invariant
    (rw c.new_member-row.ensures refl))
