use Rattle.std.proofs.Common.{Option, Ok, drop, subst}
use Rattle.lra_wire.specs.declared.front.Front.{Front}
use Rattle.lra_wire.specs.Fronts.{IsFront}
use Rattle.lra_wire.specs.Request.{request_of}
use Rattle.lra_wire.proofs.RequestsLemmas.{awaits_none}
use Rattle.lra_wire.proofs.request.end_at.Goals as goal

pub unreachable-requires : goal.unreachable-requires
unreachable-requires c =
    let front = c.in-Some.field-0 in
    let is = subst (λ (o : Option Front). IsFront c.args.bytes.now (Ok o)) c.in-Some.is c.in_ok-request_front.ensures in
    awaits_none c.args.bytes.now (request_of front.request) (drop front.len c.args.bytes.now) c.requires is.1
