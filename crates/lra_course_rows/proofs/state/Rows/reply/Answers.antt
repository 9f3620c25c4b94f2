use Rattle.std.proofs.Common.{sym, ◌∙◌, ap}
use Rattle.lra_course_rows.specs.contracts.state.Rows.{the_view}
use Rattle.lra_laws.specs.Rows.{MemberRow}
use Rattle.lra_laws.specs.Rows.{with_reply}
use Rattle.lra_course_rows.proofs.Index.{IsIndex-answered, place_of-free, place_of-held, change_member-absent}
use Rattle.lra_course_rows.proofs.Index.{change_member-held, with_reply-asked}
use Rattle.lra_course_rows.proofs.state.Rows.reply.Goals as goal

pub returns-in_default : goal.returns-in_default
returns-in_default c =
    rw (← c.self.view_is)
    (sym (change_member-absent _ _ (the_view c.self.inside) (place_of-free c.self.invariant c.args.number
    (sym c.get.ensures.value ∙ sym c.copied.ensures ∙ c.in_default.is))))

pub returns-in_default-member : goal.returns-in_default-member
returns-in_default-member c =
    rw (← c.self.view_is) (sym (change_member-absent _ _ (the_view c.self.inside)
    (rw (place_of-held c.self.invariant c.args.number c.in-Some.member
    (sym c.get.ensures.value ∙ sym c.copied.ensures ∙ c.in-Some.is))
    (rw (← c.self.view_is) at (sym c.member.ensures ∙ c.in_default-member.is)))))

pub count_member-requires : goal.count_member-requires
count_member-requires c = (rw (← c.self.view_is) at c.requires)

pub invariant_of-self : goal.invariant_of-self
invariant_of-self c =
    rw c.set_member.ensures (IsIndex-answered _ _ c.args.number c.in-Some.member c.in-Some-member.before
    c.with_reply-now.result _ _
    c.self.invariant
    (sym c.get.ensures.value ∙ sym c.copied.ensures ∙ c.in-Some.is)
    (rw (← c.self.view_is) at (sym c.member.ensures ∙ c.in-Some-member.is))
    (ap (λ (r : MemberRow). r.asked) c.with_reply-now.ensures ∙ with_reply-asked c.args.outcome c.in-Some-member.before)
    c.remove.ensures.updates.0)

pub returns : goal.returns
returns c =
    rw (c.count_member.ensures, c.set_member.ensures, c.with_reply-now.ensures, ← c.self.view_is)
    (sym (change_member-held (with_reply c.args.outcome) c.args.number c.in-Some.member (the_view c.self.inside)
    c.in-Some-member.before
    c.self.invariant
    (sym c.get.ensures.value ∙ sym c.copied.ensures ∙ c.in-Some.is)
    (rw (← c.self.view_is) at (sym c.member.ensures ∙ c.in-Some-member.is))))
