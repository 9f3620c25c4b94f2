use Rattle.lra_course_rows.proofs.Index.{IsIndex-kept}
use Rattle.lra_course_rows.proofs.state.Rows.replace_member.Goals as goal

pub count_member-requires : goal.count_member-requires
count_member-requires c = (rw (← c.self.view_is) at c.requires.counts)

pub invariant_of-self : goal.invariant_of-self
invariant_of-self c = rw c.set_member.ensures (IsIndex-kept _ _ c.args.number c.args.before.now c.args.now _
    c.self.invariant (rw (← c.self.view_is) at c.requires.there) c.requires.asked)
