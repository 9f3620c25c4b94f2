use Rattle.std.proofs.Common.{refl, arith}
use Rattle.httparse.specs.Spans.{IsResponseOf}
use Rattle.httparse.proofs.HeadLemmas.{at_complete, on_partial}
use Rattle.lra_wire.proofs.ResponseLemmas.{never_after_response, never_after_open}
use Rattle.lra_wire.proofs.response.head_at.Goals as goal

pub returns-then-head-gt-MAX_HEAD : goal.returns-then-head-gt-MAX_HEAD
returns-then-head-gt-MAX_HEAD c =
    let at = at_complete (IsResponseOf c.args.bytes.now c.parse_response.new.headers) c.in-Ok-Complete.is
    c.in-Ok-Complete.field-0-is c.parse_response.ensures.complete in (
      refl,
      never_after_response c.args.bytes.now at.0 _ at.1.reads (λ short. omega
          (arith, short.size, at.1.len, c.if-head-gt-MAX_HEAD.true)),
    )

pub returns-in_default : goal.returns-in_default
returns-in_default c = (
  refl,
  never_after_open c.args.bytes.now (on_partial c.in-Ok-Partial.is c.in-Ok-Partial.field-0-is
      c.parse_response.ensures.partial) (omega arith),
)
