use Rattle.std.proofs.Common.{refl, sym, ◌∙◌, ap}
use Rattle.lra_laws.specs.Rows.{MemberRow}
use Rattle.lra_laws.specs.Rows.{way_asked}
use Rattle.lra_course_rows.proofs.Index.{IsIndex-asked}
use Rattle.lra_course_rows.proofs.state.Rows.ask.Goals as goal

pub count_member-requires : goal.count_member-requires
count_member-requires c = (rw (← c.self.view_is) at c.requires.counts)

pub invariant_of-self-2 : goal.invariant_of-self-2
invariant_of-self-2 c =
    rw c.set_member.ensures (IsIndex-asked _ _ c.args.number c.args.member
    (record {
      number = c.args.number;
      kind = c.args.kind;
      direction =
          way_asked c.args.kind c.in-Some.before.status;
    }) c.in-Some.before c.with_ask-now.result _ _
    c.self.invariant
    (rw (← c.self.view_is) at (sym c.member.ensures ∙ c.in-Some.is))
    (ap (λ (r : MemberRow). r.asked) c.with_ask-now.ensures)
    refl
    (rw (← c.self.view_is) at c.requires.next)
    c.in_ok-index_ask.ensures.ok)
