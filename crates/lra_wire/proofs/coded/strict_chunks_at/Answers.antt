use Rattle.std.proofs.Common.{Ok, sym, ◌∙◌, subst}
use Rattle.lra_wire.specs.declared.wanted.BodyFront.{BodyFront}
use Rattle.lra_wire.specs.inner.Parts.{IsLastFrom}
use Rattle.lra_wire.proofs.CodedLemmas.{bare_refused, strict_whole}
use Rattle.lra_wire.proofs.coded.strict_chunks_at.Goals as goal

pub returns-then-has_bare_feed-clause-finds : goal.returns-then-has_bare_feed-clause-finds
returns-then-has_bare_feed-clause-finds c =
    let start = c.args.chunks.now.start in
    let last = c.chunks_at.new.chunks.last in
    let from = subst (λ (f : BodyFront). IsLastFrom start last c.args.bytes.now (Ok f)) c.in-Whole.is
    c.in_ok-body.ensures.last in
    bare_refused start last c.in-Whole.end c.args.bytes.now c.in-Whole.body.items from
    (sym c.has_bare_feed.ensures ∙ c.if-has_bare_feed.true)

pub returns-else-has_bare_feed-clause-finds : goal.returns-else-has_bare_feed-clause-finds
returns-else-has_bare_feed-clause-finds c =
    let start = c.args.chunks.now.start in
    let last = c.chunks_at.new.chunks.last in
    let from = subst (λ (f : BodyFront). IsLastFrom start last c.args.bytes.now (Ok f)) c.in-Whole.is
    c.in_ok-body.ensures.last in
    strict_whole start last c.in-Whole.end c.args.bytes.now c.in-Whole.body.items from
    (sym c.has_bare_feed.ensures ∙ c.if-has_bare_feed.false)
