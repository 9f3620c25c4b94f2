use Rattle.std.proofs.Common.{ℕ, List, Bool, Option, Some, Ok, sym, subst, ◌∙◌, inl, refl}
use Rattle.std.proofs.lemmas.Result.{err_from_is_err_and}
use Rattle.lra_wire.specs.declared.front.Front.{Front}
use Rattle.lra_wire.specs.Fronts.{RefusesFront, IsFront, IsFrontSeen, Sees}
use Rattle.lra_wire.specs.Inbox.{kept_bytes}
use Rattle.lra_wire.specs.Request.{AwaitsRequest}
use Rattle.lra_wire.specs.inner.Growth.{Fills}
use Rattle.lra_wire.proofs.FrontLemmas.{sees_more}
use Rattle.lra_wire.proofs.InboxLemmas.{Grows_refl, asks_more, asks_taken, waits_more}
use Rattle.lra_wire.proofs.TakenLemmas.{request_refused, request_taken, request_open}
use Rattle.lra_wire.proofs.request.next_request.Goals as goal

pub loop-front-init : goal.loop-front-init
loop-front-init g c = (
  record { grows = Grows_refl g.R.Read.remaining c.args.inbox.now; asks = inl (refl, refl) },
  c.nothing-seen.ensures (kept_bytes c.args.inbox.now),
)

pub returns-in_err-front-clause-next : goal.returns-in_err-front-clause-next
returns-in_err-front-clause-next g c =
    let fault = c.in_err-front.field-0.0 in
    let p = err_from_is_err_and c.from_residual.result c.from_residual.ensures.1 in
    rw (p.1, p.2) (request_refused g.R.Read.remaining c.args.inbox.now c.loop-front.inbox fault
    c.loop-front.invariant.0.grows
    (subst (λ (bs : List ℕ). RefusesFront bs fault) c.bytes.ensures c.in_err-front.ensures.front))

pub returns-in-Some-clause-next : goal.returns-in-Some-clause-next
returns-in-Some-clause-next g c =
    let front = subst (λ (o : Option Front). IsFrontSeen c.bytes.result.now (Ok o)) c.in-Some.is
    c.in_ok-front.ensures.front in
    request_taken g.R.Read.remaining c.args.inbox.now c.loop-front.inbox c.take.new.self c.in-Some.front
    c.loop-front.invariant.0.grows
    (subst (λ (bs : List ℕ). IsFront bs (Ok (Some c.in-Some.front))) c.bytes.ensures front) c.take.ensures.kept
    c.take.ensures.reader

pub returns-in-Some-clause-asks : goal.returns-in-Some-clause-asks
returns-in-Some-clause-asks g c =
    asks_taken AwaitsRequest c.args.inbox.now c.loop-front.inbox c.take.new.self c.loop-front.invariant.0.asks
    c.take.ensures.reader c.take.ensures.asked

pub returns-in_err-fill-clause-asks : goal.returns-in_err-fill-clause-asks
returns-in_err-fill-clause-asks g c =
    let here = request_open c.bytes.result.now (kept_bytes c.loop-front.inbox) c.in_ok-front.field-0 c.bytes.ensures
    c.in_default.is c.in_ok-front.ensures.front in
    asks_more AwaitsRequest c.args.inbox.now c.loop-front.inbox c.fill.new.self c.loop-front.invariant.0.asks
    c.fill.ensures.asks here.0

pub end_at-requires : goal.end_at-requires
end_at-requires g c =
    let here = request_open c.bytes.result.now (kept_bytes c.loop-front.inbox) c.in_ok-front.field-0 c.bytes.ensures
    c.in_default.is c.in_ok-front.ensures.front in
    let ended = subst (λ (came : Bool). Fills g.R.Read.remaining c.loop-front.inbox c.fill.new.self (Ok came))
    c.if-not-branch.true c.in_ok-fill.ensures.fills in
    subst AwaitsRequest (sym (c.bytes-then-not-branch.ensures ∙ ended.2)) here.0

pub returns-in_err-end_at-clause-asks : goal.returns-in_err-end_at-clause-asks
returns-in_err-end_at-clause-asks g c =
    let here = request_open c.bytes.result.now (kept_bytes c.loop-front.inbox) c.in_ok-front.field-0 c.bytes.ensures
    c.in_default.is c.in_ok-front.ensures.front in
    asks_more AwaitsRequest c.args.inbox.now c.loop-front.inbox c.fill.new.self c.loop-front.invariant.0.asks
    c.fill.ensures.asks here.0

pub returns-then-not-branch-clause-asks : goal.returns-then-not-branch-clause-asks
returns-then-not-branch-clause-asks g c =
    let here = request_open c.bytes.result.now (kept_bytes c.loop-front.inbox) c.in_ok-front.field-0 c.bytes.ensures
    c.in_default.is c.in_ok-front.ensures.front in
    asks_more AwaitsRequest c.args.inbox.now c.loop-front.inbox c.fill.new.self c.loop-front.invariant.0.asks
    c.fill.ensures.asks here.0

pub loop-front-preserved : goal.loop-front-preserved
loop-front-preserved g c =
    let here = request_open c.bytes.result.now (kept_bytes c.loop-front.inbox) c.in_ok-front.field-0 c.bytes.ensures
    c.in_default.is c.in_ok-front.ensures.front in
    let fills = subst (λ (came : Bool). Fills g.R.Read.remaining c.loop-front.inbox c.fill.new.self (Ok came))
    c.if-not-branch.false c.in_ok-fill.ensures.fills in
    let seen = c.request_front_seen.new.seen in (
      waits_more AwaitsRequest c.args.inbox.now c.loop-front.inbox c.fill.new.self c.loop-front.invariant.0 here.0
          fills.0 c.fill.ensures.asks,
      subst (Sees seen) (sym fills.0.kept)
          (sees_more seen (kept_bytes c.loop-front.inbox) fills.0.more
          (subst (Sees seen) c.bytes.ensures c.in_ok-front.ensures.seen)),
    )
