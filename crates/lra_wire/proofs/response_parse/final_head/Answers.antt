use Rattle.std.proofs.Common.{ℕ, List, Option, None, Ok, sym, subst, ◌∙◌, arith}
use Rattle.std.proofs.lemmas.Result.{err_from_is_err_and}
use Rattle.lra_wire.specs.declared.fault.WireFault.{WireFault}
use Rattle.lra_wire.specs.declared.response.Head.{Head}
use Rattle.lra_wire.specs.ResponseParse.{Lasts}
use Rattle.lra_wire.specs.Response.{NeverShort, RefusesResponse}
use Rattle.lra_wire.specs.inner.Parts.{Heads, FindsResponse, IsHeadOf}
use Rattle.lra_wire.proofs.ComingLemmas.{heads_more, heads_final, heads_refused, heads_ninth}
use Rattle.lra_wire.proofs.response_parse.final_head.Goals as goal

pub returns-in_err-head-clause-finds : goal.returns-in_err-head-clause-finds
returns-in_err-head-clause-finds c =
    let p = err_from_is_err_and c.from_residual.result c.from_residual.ensures.1 in
    let bad = c.in_err-head.ensures in
    rw (p.1, p.2) (subst (λ (fault : WireFault). Lasts RefusesResponse c.args.bytes.now fault) (sym bad.0)
    (heads_refused c.args.bytes.now c.loop-head.passed.end c.loop-head.passed.count c.loop-head.invariant
    (subst NeverShort c.behind.ensures bad.1)))

pub returns-in_default-clause-finds : goal.returns-in_default-clause-finds
returns-in_default-clause-finds c =
    let none = subst (λ (o : Option Head). FindsResponse c.behind.result.now (Ok o)) c.in_default.is
    c.in_ok-head.ensures in
    subst (λ (bs : List ℕ). FindsResponse bs (Ok None)) c.behind.ensures none

pub returns-then-not-is_interim-clause-finds : goal.returns-then-not-is_interim-clause-finds
returns-then-not-is_interim-clause-finds c =
    let at = subst (λ (o : Option Head). FindsResponse c.behind.result.now (Ok o)) c.in-Some.is c.in_ok-head.ensures in
    heads_final c.args.bytes.now c.loop-head.passed.end c.loop-head.passed.count c.in-Some.head c.loop-head.invariant
    (subst (λ (bs : List ℕ). IsHeadOf bs c.in-Some.head) c.behind.ensures at)
    (sym c.is_interim.ensures ∙ c.if-not-is_interim.true)

pub returns-then-passed-eq-MAX_INTERIM-clause-finds : goal.returns-then-passed-eq-MAX_INTERIM-clause-finds
returns-then-passed-eq-MAX_INTERIM-clause-finds c =
    let at = subst (λ (o : Option Head). FindsResponse c.behind.result.now (Ok o)) c.in-Some.is c.in_ok-head.ensures in
    heads_ninth c.args.bytes.now c.loop-head.passed.end c.in-Some.head
    (subst (λ (n : ℕ). Heads c.args.bytes.now c.loop-head.passed.end n) c.if-passed-eq-MAX_INTERIM.true
    c.loop-head.invariant)
    (subst (λ (bs : List ℕ). IsHeadOf bs c.in-Some.head) c.behind.ensures at)
    (sym c.is_interim.ensures ∙ c.if-not-is_interim.false)

pub loop-head-preserved : goal.loop-head-preserved
loop-head-preserved c =
    let at = subst (λ (o : Option Head). FindsResponse c.behind.result.now (Ok o)) c.in-Some.is c.in_ok-head.ensures in
    heads_more c.args.bytes.now c.loop-head.passed.end c.loop-head.passed.count c.in-Some.head c.loop-head.invariant
    (subst (λ (bs : List ℕ). IsHeadOf bs c.in-Some.head) c.behind.ensures at)
    (sym c.is_interim.ensures ∙ c.if-not-is_interim.false)
    (omega (arith, c.loop-head.invariant.few, c.if-passed-eq-MAX_INTERIM.false))
