use Rattle.std.proofs.Common.{ap, sym, subst, [], Option, Ok, arith}
use Rattle.httparse.specs.declared.spans.RequestSpans.{RequestSpans}
use Rattle.lra_wire.specs.inner.Heads.{FindsHead}
use Rattle.lra_wire.specs.Request.{Request, request_of}
use Rattle.std.proofs.lemmas.Result.{err_from_is_err_and}
use Rattle.lra_wire.proofs.FrontLemmas.{request_front, head_refuses, size_refuses, body_lacks}
use Rattle.lra_wire.proofs.front.find_front.Goals as goal

pub returns-in_err-head : goal.returns-in_err-head
returns-in_err-head c =
    let p = err_from_is_err_and c.from_residual.result c.from_residual.ensures.1 in
    rw (p.1, p.2) (head_refuses c.args.bytes.now c.in_err-head.field-0.0 c.in_err-head.ensures.0
    c.in_err-head.ensures.1)

pub returns-in_default : goal.returns-in_default
returns-in_default c = subst (λ (o : Option RequestSpans). FindsHead c.args.bytes.now c.head_at.new.headers (Ok o))
    c.in_default.is c.in_ok-head.ensures

pub body_length_at-requires : goal.body_length_at-requires
body_length_at-requires c = subst (λ (o : Option RequestSpans). FindsHead c.args.bytes.now c.head_at.new.headers (Ok o))
    c.in-Some.is c.in_ok-head.ensures

pub returns-in_err-size : goal.returns-in_err-size
returns-in_err-size c =
    let at = subst (λ (o : Option RequestSpans). FindsHead c.args.bytes.now c.head_at.new.headers (Ok o)) c.in-Some.is
    c.in_ok-head.ensures in
    let p = err_from_is_err_and c.from_residual-in_err-size.result c.from_residual-in_err-size.ensures.1 in
    rw (p.1, p.2) (size_refuses c.args.bytes.now c.head_at.new.headers c.in-Some.head c.in_err-size.field-0.0 at
    (sym c.in_err-size.ensures.is))

pub overflow_add-len : goal.overflow_add-len
overflow_add-len c =
    let at = subst (λ (o : Option RequestSpans). FindsHead c.args.bytes.now c.head_at.new.headers (Ok o)) c.in-Some.is
    c.in_ok-head.ensures in
    omega (arith, at.places.len, at.lawful.size, c.in_ok-size.ensures.small)

pub request_at-requires : goal.request_at-requires
request_at-requires c = subst (λ (o : Option RequestSpans). FindsHead c.args.bytes.now c.head_at.new.headers (Ok o))
    c.in-Some.is c.in_ok-head.ensures

pub returns-in_err-request : goal.returns-in_err-request
returns-in_err-request c =
    let p = err_from_is_err_and c.from_residual-in_err-request.result c.from_residual-in_err-request.ensures.1 in
    rw (p.1, p.2) tt

pub returns-in_err-request-2 : goal.returns-in_err-request-2
returns-in_err-request-2 c =
    let p = err_from_is_err_and c.from_residual-in_err-request-2.result c.from_residual-in_err-request-2.ensures.1 in
    rw (p.1, p.2) tt

pub returns-then-bytes-len : goal.returns-then-bytes-len
returns-then-bytes-len c =
    let at = subst (λ (o : Option RequestSpans). FindsHead c.args.bytes.now c.head_at.new.headers (Ok o)) c.in-Some.is
    c.in_ok-head.ensures in
    body_lacks c.args.bytes.now c.head_at.new.headers c.in-Some.head c.in_ok-size.size at (sym c.in_ok-size.ensures.is)
    (omega arith)

pub returns : goal.returns
returns c =
    let at = subst (λ (o : Option RequestSpans). FindsHead c.args.bytes.now c.head_at.new.headers (Ok o)) c.in-Some.is
    c.in_ok-head.ensures in (
      omega arith,
      request_front c.args.bytes.now c.head_at.new.headers c.in-Some.head c.in_ok-size.size
          (request_of (record c.in_ok-request.request { body = c.in_ok-request-2.field-0 })) at
          (sym c.in_ok-size.ensures.is) (omega arith)
          (ap (λ (r : Request). record r { body = [] }) c.in_ok-request.ensures) c.in_ok-request-2.ensures.items,
    )
