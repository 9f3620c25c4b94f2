use Rattle.std.proofs.Common.{ℕ, Ok, Err, subst}
use Rattle.std.proofs.lemmas.Result.{err_from_is_err_and}
use Rattle.lra_wire.specs.declared.wanted.BodyFront.{BodyFront}
use Rattle.lra_wire.specs.declared.wanted.BodyFront.TheVariants.{Whole}
use Rattle.lra_wire.specs.inner.Parts.{FindsBodyFront}
use Rattle.lra_wire.proofs.ComingLemmas.{seen_final, body_refused_now, response_whole}
use Rattle.lra_wire.proofs.response_parse.read_on.Goals as goal

pub returns-in_err-body-clause-response_parse : goal.returns-in_err-body-clause-response_parse
returns-in_err-body-clause-response_parse c =
    let head = c.in-Some.head in
    let seen = seen_final c.find_head.new.self c.args.bytes.now c.in_ok-head.field-0 head c.find_head.ensures.sees
    c.in-Some.is c.in_ok-head.ensures.finds in
    let p = err_from_is_err_and c.from_residual-in_err-body.result c.from_residual-in_err-body.ensures.1 in
    rw (p.1, p.2) (body_refused_now c.args.bytes.now head c.in_ok-head-2.field-0 c.in_err-body.field-0.0 seen.0
    c.in_ok-head-2.was
    (subst (λ (n : ℕ). FindsBodyFront c.in_ok-head-2.field-0 n c.args.bytes.now (Err c.in_err-body.field-0.0)) seen.1
    c.in_err-body.ensures.finds))

pub returns-in-Whole-clause-response_parse : goal.returns-in-Whole-clause-response_parse
returns-in-Whole-clause-response_parse c =
    let head = c.in-Some.head in
    let seen = seen_final c.find_head.new.self c.args.bytes.now c.in_ok-head.field-0 head c.find_head.ensures.sees
    c.in-Some.is c.in_ok-head.ensures.finds in
    let there = subst (λ (front : BodyFront). FindsBodyFront c.in_ok-head-2.field-0 c.find_head.new.self.chunks.start
    c.args.bytes.now (Ok front)) c.in-Whole.is c.in_ok-body.ensures.finds in
    response_whole c.args.bytes.now head c.in_ok-head-2.field-0 c.in-Whole.body.items c.in-Whole.len seen.0
    c.in_ok-head-2.was
    (subst (λ (n : ℕ). FindsBodyFront c.in_ok-head-2.field-0 n c.args.bytes.now
    (Ok (Whole c.in-Whole.body c.in-Whole.len))) seen.1 there)
