use Rattle.std.proofs.Common.{ℕ, Err, subst}
use Rattle.std.proofs.lemmas.Result.{err_from_is_err_and}
use Rattle.lra_wire.specs.inner.CodedParts.{FindsCodedBody}
use Rattle.lra_wire.proofs.CodedLemmas.{coded_bounded, coded_refused, seen_coded}
use Rattle.lra_wire.proofs.coded.read_coded.Goals as goal

pub coded_body_at-requires-clause-bounded : goal.coded_body_at-requires-clause-bounded
coded_body_at-requires-clause-bounded c =
    coded_bounded c.args.bytes.now c.in_ok-head.head c.in_ok-head.ensures.finds.1

pub returns-in_err-body-clause-front : goal.returns-in_err-body-clause-front
returns-in_err-body-clause-front c =
    let bytes = c.args.bytes.now in
    let head = c.in_ok-head.head in
    let fault = c.in_err-body.field-0.0 in
    let p = err_from_is_err_and c.from_residual-in_err-body.result c.from_residual-in_err-body.ensures.1 in
    let seen = seen_coded c.find_head.new.self bytes head c.in_ok-head.ensures.sees c.in_ok-head.ensures.finds.0 in
    rw (p.1, p.2) (coded_refused bytes head fault c.in_ok-head.ensures.finds.1
    (subst (λ (n : ℕ). FindsCodedBody head.framing n bytes (Err fault)) seen.1 c.in_err-body.ensures.finds))
