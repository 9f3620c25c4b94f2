use Rattle.std.proofs.Common.{◌≡◌, ap, subst, sym}
use Rattle.std.specs.Prelude.{Ok}
use Rattle.lra_wire.specs.Request.{request_of}
use Rattle.lra_operators.specs.declared.operation.Operation.{Operation}
use Rattle.lra_operators.specs.Routes.{operation_of}
use Rattle.lra_operators.specs.Access.{served_or_query}
use Rattle.lra_operators.specs.Denials.{IsDenied}
use Rattle.lra_operators.proofs.Giving.{routed_answers}
use Rattle.lra_operators.proofs.port.Port.answer.Goals as goal

pub returns-in-Ok-clause-answers : goal.returns-in-Ok-clause-answers
returns-in-Ok-clause-answers g c =
    routed_answers _ _ c.in-Ok.operation _ _
    (cc (c.in-Ok.is, c.operation.ensures, c.as_str-method.ensures.value, c.as_str-target.ensures.value))
    c.respond.ensures.orders

pub returns-in-Ok-clause-denied : goal.returns-in-Ok-clause-denied
returns-in-Ok-clause-denied g c =
    let request = request_of c.args.request.now in
    let routed : operation_of request.method request.target ≡ Ok c.in-Ok.operation =
    cc (c.in-Ok.is, c.operation.ensures, c.as_str-method.ensures.value, c.as_str-target.ensures.value) in
    subst (λ (o : Operation). IsDenied c.args.access.now request o c.respond.result)
    (sym (ap served_or_query routed)) c.respond.ensures.denied
