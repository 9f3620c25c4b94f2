use Rattle.std.proofs.Common.{ap, [], refl, arith}
use Rattle.lra_wire.specs.Request.{Request, request_of}
use Rattle.lra_wire.proofs.CodedLemmas.{whole_long, head_valid_at, coded_whole}
use Rattle.lra_wire.proofs.coded.coded_request.Goals as goal

pub returns-then-len-gt-MAX_CODED : goal.returns-then-len-gt-MAX_CODED
returns-then-len-gt-MAX_CODED c =
    whole_long c.args.bytes.now c.args.found c.args.body.items c.args.len c.requires.head c.requires.body (omega arith)

pub unreachable-requires-in-Err : goal.unreachable-requires-in-Err
unreachable-requires-in-Err c =
    head_valid_at c.args.bytes.now c.args.found c.head_at.new.headers c.in-Err.field-0 c.requires.head c.in-Err.ensures

pub returns : goal.returns
returns c =
    let at = rw c.in-Ok-Some.field-0-is at c.in-Ok-Some.ensures in
    coded_whole c.args.bytes.now c.args.found c.head_at.new.headers c.in-Ok-Some.head
    (request_of (record c.in_ok-request-in-Ok-Some.request { body = c.args.body })) c.args.body.items c.args.len
    c.requires.head at c.requires.body (omega arith)
    (ap (λ (r : Request). record r { body = [] }) c.in_ok-request-in-Ok-Some.ensures) refl
