use Rattle.std.proofs.Common.{ℕ, List, Option, Ok, subst, arith}
use Rattle.httparse.specs.Grammar.{HasNoChunkLine, MayBecomeChunkLine}
use Rattle.lra_wire.specs.inner.Chunked.{FindsLine, IsLineOf}
use Rattle.lra_wire.proofs.ChunksLemmas.{line_open, part_last, part_content}
use Rattle.lra_wire.proofs.chunks.part_at.Goals as goal

pub returns-in_default : goal.returns-in_default
returns-in_default c =
    let none = subst (λ (o : Option (ℕ × ℕ)). FindsLine c.behind.result.now (Ok o)) c.in_default.is
    c.in_ok-line.ensures in
    line_open c.args.bytes.now c.args.start c.args.room c.in_ok-next_feed.field-0 c.requires.start
    (subst HasNoChunkLine c.behind.ensures none.0) (subst MayBecomeChunkLine c.behind.ensures none.1)
    c.in_ok-next_feed.ensures

pub returns-then-size-eq0 : goal.returns-then-size-eq0
returns-then-size-eq0 c =
    let found : ℕ × ℕ = (c.in-Some.line, c.in-Some.size) in
    let at = subst (λ (o : Option (ℕ × ℕ)). FindsLine c.behind.result.now (Ok o)) c.in-Some.is c.in_ok-line.ensures in
    part_last c.args.bytes.now c.args.start c.args.room found c.last_at.result c.requires.start
    (subst (λ (bs : List ℕ). IsLineOf bs found) c.behind.ensures at)
    c.if-size-eq0.true c.last_at.ensures

pub returns-else-size-eq0 : goal.returns-else-size-eq0
returns-else-size-eq0 c =
    let found : ℕ × ℕ = (c.in-Some.line, c.in-Some.size) in
    let at = subst (λ (o : Option (ℕ × ℕ)). FindsLine c.behind.result.now (Ok o)) c.in-Some.is c.in_ok-line.ensures in
    part_content c.args.bytes.now c.args.start c.args.room found c.content_at.result c.requires.start
    (subst (λ (bs : List ℕ). IsLineOf bs found) c.behind.ensures at)
    (omega (arith, c.if-size-eq0.false)) c.content_at.ensures
