use Rattle.std.proofs.Common.{Option, ◌∙◌, ap, Ok, subst}
use Rattle.lra_wire.specs.declared.framing.Framing.TheVariants.{Sized, Chunks}
use Rattle.lra_wire.specs.declared.response.Head.{Head}
use Rattle.lra_wire.specs.inner.Parts.{SeesBody, EndsOpen}
use Rattle.lra_wire.proofs.ComingLemmas.{rest_whole, response_cut_now}
use Rattle.lra_wire.proofs.response_parse.ResponseCursor.rest.Goals as goal

pub returns-in_ok-body-in-ToTheEnd : goal.returns-in_ok-body-in-ToTheEnd
returns-in_ok-body-in-ToTheEnd c =
    let seen = subst (λ (o : Option Head). SeesBody o c.args.self.now.chunks c.args.bytes.now) c.in-Some.is
    c.requires.sees.body in
    rest_whole c.args.bytes.now c.in-Some.head c.in_ok-head.field-0 c.in_ok-body-in-ToTheEnd.body.items seen.0
    (subst (λ (o : Option Head). EndsOpen o c.args.bytes.now) c.in-Some.is c.requires.ends) c.in_ok-head.was
    c.in-ToTheEnd.is
    (c.in_ok-body-in-ToTheEnd.ensures.items ∙ c.behind.ensures)

pub returns-in-Sized : goal.returns-in-Sized
returns-in-Sized c =
    let seen = subst (λ (o : Option Head). SeesBody o c.args.self.now.chunks c.args.bytes.now) c.in-Some.is
    c.requires.sees.body in
    response_cut_now c.args.bytes.now c.in-Some.head (Sized c.in-Sized.field-0) seen.0
    (subst (λ (o : Option Head). EndsOpen o c.args.bytes.now) c.in-Some.is c.requires.ends)
    (c.in_ok-head.was ∙ ap Ok c.in-Sized.is) (λ cut. cut)

pub returns-in-Chunks : goal.returns-in-Chunks
returns-in-Chunks c =
    let seen = subst (λ (o : Option Head). SeesBody o c.args.self.now.chunks c.args.bytes.now) c.in-Some.is
    c.requires.sees.body in
    response_cut_now c.args.bytes.now c.in-Some.head Chunks seen.0
    (subst (λ (o : Option Head). EndsOpen o c.args.bytes.now) c.in-Some.is c.requires.ends)
    (c.in_ok-head.was ∙ ap Ok c.in-Chunks.is) (λ cut. cut)
