use Rattle.std.proofs.Common.{refl, sym, ◌∙◌, arith}
use Rattle.httparse.specs.Spans.{IsRequestOf}
use Rattle.httparse.proofs.HeadLemmas.{at_complete, on_partial}
use Rattle.lra_wire.proofs.RequestLemmas.{never_after_head, never_after_front, no_host_at}
use Rattle.lra_wire.proofs.request.head_at.Goals as goal
use Rattle.lra_wire.proofs.request.head_at.Goals.{then-head-gt-MAX_HEAD-via-then-head-gt-MAX_HEAD}
use Rattle.lra_wire.proofs.request.head_at.Goals.{then-head-gt-MAX_HEAD-via-else-head-gt-MAX_HEAD+then-not-has_host}

pub returns-then-head-gt-MAX_HEAD : goal.returns-then-head-gt-MAX_HEAD
returns-then-head-gt-MAX_HEAD c =
    let at = at_complete (IsRequestOf c.args.bytes.now c.parse_request.new.headers) c.in-Ok-Complete.is
    c.in-Ok-Complete.field-0-is c.parse_request.ensures.complete in (
      refl,
      never_after_head c.args.bytes.now at.0 _ at.1.reads (λ lawful.
          elim c.then-head-gt-MAX_HEAD.branch [
            | then-head-gt-MAX_HEAD-via-then-head-gt-MAX_HEAD w ↦ omega (arith, lawful.size, at.1.len)
            | then-head-gt-MAX_HEAD-via-else-head-gt-MAX_HEAD+then-not-has_host w ↦ no_host_at c.args.bytes.now
                c.parse_request.new.headers c.in-Ok-Complete.head at.0 at.1
                (sym w.has_host.ensures ∙ w.if-not-has_host.true) lawful
          ]),
    )

pub returns-in_default : goal.returns-in_default
returns-in_default c = (
  refl,
  never_after_front c.args.bytes.now (on_partial c.in-Ok-Partial.is c.in-Ok-Partial.field-0-is
      c.parse_request.ensures.partial) (omega arith),
)
