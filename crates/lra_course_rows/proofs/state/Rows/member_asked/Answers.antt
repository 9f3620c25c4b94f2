use Rattle.lra_course_rows.specs.contracts.state.Rows.{the_view}
use Rattle.std.proofs.Common.{sym, ◌∙◌, ap}
use Rattle.std.specs.Option.{option_copied}
use Rattle.lra_course_rows.proofs.Index.{member_asked-held, member_asked-free}
use Rattle.lra_course_rows.proofs.state.Rows.member_asked.Goals as goal

pub returns-in-Some : goal.returns-in-Some
returns-in-Some c =
    c.member.ensures
    ∙ rw (← c.self.view_is) (member_asked-held (the_view c.self.inside) c.self.invariant c.args.ask c.in-Some.member.now
    c.if-ask-self.false (sym c.get.ensures.value ∙ ap option_copied c.in-Some.is))

pub returns-in-None : goal.returns-in-None
returns-in-None c =
    rw (← c.self.view_is) (member_asked-free (the_view c.self.inside) c.self.invariant c.args.ask c.if-ask-self.false
    (sym c.get.ensures.value ∙ ap option_copied c.in-None.is))
