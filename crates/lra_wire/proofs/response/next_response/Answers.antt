use Rattle.std.proofs.Common.{ℕ, List, Bool, Ok, Err, sym, subst, inl, refl}
use Rattle.std.proofs.lemmas.Result.{err_from_is_err_and}
use Rattle.lra_wire.specs.declared.response_parse.ResponseParse.{ResponseParse}
use Rattle.lra_wire.specs.ResponseParse.{IsComing, IsOpen}
use Rattle.lra_wire.specs.Inbox.{kept_bytes}
use Rattle.lra_wire.specs.Response.{AwaitsResponse}
use Rattle.lra_wire.specs.RequestCursor.{SeesResponse}
use Rattle.lra_wire.specs.inner.Growth.{Fills}
use Rattle.lra_wire.specs.inner.Reading.{IsLast}
use Rattle.lra_wire.proofs.ComingLemmas.{sees_more}
use Rattle.lra_wire.proofs.InboxLemmas.{Grows_refl, Grows_trans, asks_more, asks_taken, waits_more}
use Rattle.lra_wire.proofs.TakenLemmas.{response_open, response_cut, last_taken}
use Rattle.lra_wire.proofs.response.next_response.Goals as goal

pub loop-seen-init : goal.loop-seen-init
loop-seen-init g c = (
  record { grows = Grows_refl g.R.Read.remaining c.args.inbox.now; asks = inl (refl, refl) },
  c.nothing-seen.ensures (kept_bytes c.args.inbox.now),
)

pub returns-in_err-fill-clause-asks : goal.returns-in_err-fill-clause-asks
returns-in_err-fill-clause-asks g c =
    let o = subst (λ (response_parse : ResponseParse). IsComing c.bytes.result.now (Ok response_parse)) c.in-Open.is
    c.in_ok-response.ensures.response_parse in
    let here = response_open (kept_bytes c.loop-seen.inbox) c.in-Open.field-0
    (subst (λ (bs : List ℕ). IsOpen bs c.in-Open.field-0) c.bytes.ensures o) in
    asks_more AwaitsResponse c.args.inbox.now c.loop-seen.inbox c.fill.new.self c.loop-seen.invariant.0.asks
    c.fill.ensures.asks here

pub returns-in_err-response-2-clause-next : goal.returns-in_err-response-2-clause-next
returns-in_err-response-2-clause-next g c =
    let fault = c.in_err-response-2.field-0.0 in
    let ended = subst (λ (came : Bool). Fills g.R.Read.remaining c.loop-seen.inbox c.fill.new.self (Ok came))
    c.if-not-branch.true c.in_ok-fill.ensures.fills in
    let p = err_from_is_err_and c.from_residual-in_err-response-2.result c.from_residual-in_err-response-2.ensures.1 in
    rw (p.1, p.2) (response_cut g.R.Read.remaining c.args.inbox.now c.fill.new.self fault
    (Grows_trans c.loop-seen.invariant.0.grows ended.0) ended.1
    (subst (λ (bs : List ℕ). IsLast bs (Err fault)) c.bytes-then-not-branch.ensures c.in_err-response-2.ensures))

pub returns-in_err-response-2-clause-asks : goal.returns-in_err-response-2-clause-asks
returns-in_err-response-2-clause-asks g c =
    let o = subst (λ (response_parse : ResponseParse). IsComing c.bytes.result.now (Ok response_parse)) c.in-Open.is
    c.in_ok-response.ensures.response_parse in
    let here = response_open (kept_bytes c.loop-seen.inbox) c.in-Open.field-0
    (subst (λ (bs : List ℕ). IsOpen bs c.in-Open.field-0) c.bytes.ensures o) in
    asks_more AwaitsResponse c.args.inbox.now c.loop-seen.inbox c.fill.new.self c.loop-seen.invariant.0.asks
    c.fill.ensures.asks here

pub returns-then-not-branch-clause-next : goal.returns-then-not-branch-clause-next
returns-then-not-branch-clause-next g c =
    let ended = subst (λ (came : Bool). Fills g.R.Read.remaining c.loop-seen.inbox c.fill.new.self (Ok came))
    c.if-not-branch.true c.in_ok-fill.ensures.fills in
    last_taken g.R.Read.remaining c.args.inbox.now c.fill.new.self c.take-then-not-branch.new.self
    (c.in_ok-response-2.response, c.in_ok-response-2.len)
    (Grows_trans c.loop-seen.invariant.0.grows ended.0) ended.1
    (subst (λ (bs : List ℕ). IsLast bs (Ok (c.in_ok-response-2.response, c.in_ok-response-2.len)))
    c.bytes-then-not-branch.ensures c.in_ok-response-2.ensures)
    c.take-then-not-branch.ensures.kept c.take-then-not-branch.ensures.reader

pub returns-then-not-branch-clause-asks : goal.returns-then-not-branch-clause-asks
returns-then-not-branch-clause-asks g c =
    let o = subst (λ (response_parse : ResponseParse). IsComing c.bytes.result.now (Ok response_parse)) c.in-Open.is
    c.in_ok-response.ensures.response_parse in
    let here = response_open (kept_bytes c.loop-seen.inbox) c.in-Open.field-0
    (subst (λ (bs : List ℕ). IsOpen bs c.in-Open.field-0) c.bytes.ensures o) in
    asks_taken AwaitsResponse c.args.inbox.now c.fill.new.self c.take-then-not-branch.new.self
    (asks_more AwaitsResponse c.args.inbox.now c.loop-seen.inbox c.fill.new.self c.loop-seen.invariant.0.asks
    c.fill.ensures.asks here)
    c.take-then-not-branch.ensures.reader c.take-then-not-branch.ensures.asked

pub loop-seen-preserved : goal.loop-seen-preserved
loop-seen-preserved g c =
    let o = subst (λ (response_parse : ResponseParse). IsComing c.bytes.result.now (Ok response_parse)) c.in-Open.is
    c.in_ok-response.ensures.response_parse in
    let here = response_open (kept_bytes c.loop-seen.inbox) c.in-Open.field-0
    (subst (λ (bs : List ℕ). IsOpen bs c.in-Open.field-0) c.bytes.ensures o) in
    let fills = subst (λ (came : Bool). Fills g.R.Read.remaining c.loop-seen.inbox c.fill.new.self (Ok came))
    c.if-not-branch.false c.in_ok-fill.ensures.fills in
    let seen = c.response_front_seen.new.seen in (
      waits_more AwaitsResponse c.args.inbox.now c.loop-seen.inbox c.fill.new.self c.loop-seen.invariant.0 here fills.0
          c.fill.ensures.asks,
      subst (SeesResponse seen) (sym fills.0.kept)
          (sees_more seen (kept_bytes c.loop-seen.inbox) fills.0.more (subst (SeesResponse seen) c.bytes.ensures
          c.in_ok-response.ensures.seen)),
    )
