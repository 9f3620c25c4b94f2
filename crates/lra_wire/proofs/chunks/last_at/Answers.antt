use Rattle.std.proofs.Common.{ℕ, List, Option, Ok, Err, sym, subst}
use Rattle.std.proofs.lemmas.Result.{err_from_is_err_and}
use Rattle.httparse.specs.Grammar.{HasNoSection, MayBecomeSection}
use Rattle.httparse.specs.Spans.{SectionOverflows}
use Rattle.lra_wire.specs.declared.fault.WireFault.{WireFault}
use Rattle.lra_wire.specs.inner.Chunked.{FindsEnd, FindsTrailer, IsTrailerOf}
use Rattle.lra_wire.proofs.ChunksLemmas.{end_refused, end_open, end_open_long, end_long}
use Rattle.lra_wire.proofs.chunks.last_at.Goals as goal

pub returns-in_err-len : goal.returns-in_err-len
returns-in_err-len c =
    let p = err_from_is_err_and c.from_residual.result c.from_residual.ensures.1 in
    let bad = c.in_err-len.ensures in
    rw (p.1, p.2) (subst (λ (fault : WireFault). FindsEnd c.args.start c.args.bytes.now (Err fault)) (sym bad.0)
    (end_refused c.args.bytes.now c.args.start c.requires (subst (SectionOverflows 64) c.behind.ensures bad.1)))

pub returns-in_default : goal.returns-in_default
returns-in_default c =
    let none = subst (λ (o : Option ℕ). FindsTrailer c.behind.result.now (Ok o)) c.in_default.is c.in_ok-len.ensures in
    end_open c.args.bytes.now c.args.start c.in_ok-next_feed.field-0 c.requires
    (subst HasNoSection c.behind.ensures none.0) (subst MayBecomeSection c.behind.ensures none.1)
    c.in_ok-next_feed.ensures

pub returns-in_err-next_feed : goal.returns-in_err-next_feed
returns-in_err-next_feed c =
    let p = err_from_is_err_and c.from_residual-in_err-next_feed.result c.from_residual-in_err-next_feed.ensures.1 in
    let long = c.in_err-next_feed.ensures in
    let none = subst (λ (o : Option ℕ). FindsTrailer c.behind.result.now (Ok o)) c.in_default.is c.in_ok-len.ensures in
    rw (p.1, p.2) (subst (λ (fault : WireFault). FindsEnd c.args.start c.args.bytes.now (Err fault)) (sym long.0)
    (end_open_long c.args.bytes.now c.args.start c.requires (subst HasNoSection c.behind.ensures none.0) long.1))

pub returns-then-end-gt-MAX_RESPONSE : goal.returns-then-end-gt-MAX_RESPONSE
returns-then-end-gt-MAX_RESPONSE c =
    let found = subst (λ (o : Option ℕ). FindsTrailer c.behind.result.now (Ok o)) c.in-Some.is c.in_ok-len.ensures in
    end_long c.args.bytes.now c.args.start c.in-Some.len c.requires (subst
    (λ (bs : List ℕ). IsTrailerOf bs c.in-Some.len) c.behind.ensures found) c.if-end-gt-MAX_RESPONSE.true
