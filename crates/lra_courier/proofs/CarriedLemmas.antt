-- What stays true of a callback exchange.
use Rattle.std.proofs.Common.{◌≡◌, ℕ, ◌+◌, ◌<◌, ◌≤◌, Bool, true, false, List, [], ◌∷◌, ◌++◌, length, drop, refl, sym}
use Rattle.std.proofs.Common.{ap, subst, ◌∙◌, arith, Option, Some, None, Result, Ok, Err}
use Rattle.std.specs.Prelude.{◌-◌, ◌||◌, if◌then◌else◌, is_some, IfSome, IsTrue}
use Rattle.std.specs.Result.{result_unwrap_or}
use Rattle.std.proofs.lemmas.List.{append-nil, length-append, length-drop}
use Rattle.lra_model.specs.declared.asks.AskKind.{AskKind}
use Rattle.lra_model.specs.declared.asks.AskKind.TheVariants as ask
use Rattle.lra_model.specs.declared.asks.Direction.{Direction}
use Rattle.lra_model.specs.declared.asks.Outcome.{Outcome}
use Rattle.lra_model.specs.declared.asks.Outcome.TheVariants.{Silent}
use Rattle.lra_model.specs.Words.{outcome_suits}
use Rattle.lra_wire.specs.declared.fault.WireFault.{WireFault}
use Rattle.lra_wire.specs.declared.fault.WireFault.TheVariants.{BadHead, Chunked, BadLength, TooLarge, Cut, Io, Memory}
use Rattle.lra_wire.specs.ResponseParse.{IsWhole, IsOpen}
use Rattle.lra_wire.specs.Response.{IsResponse, RefusesResponse, AwaitsResponse}
use Rattle.lra_wire.specs.Streams.{IfBothKnown}
use Rattle.lra_courier.specs.declared.fault.CallFault.{CallFault}
use Rattle.lra_courier.specs.declared.fault.CallFault.TheVariants.{Unreached, Send, Reply}
use Rattle.lra_courier.specs.Callbacks.{Calling}
use Rattle.lra_courier.specs.Exchanges.{IsAnswer}
use Rattle.lra_courier.specs.Replies.{classify}
use Rattle.lra_courier.specs.Carried.{Carried, IsReply, Replies, IsSent, Comes, IsCarried, room_of, went, took}
use Rattle.lra_courier.specs.Carried.{finished, broken, tells}
use Rattle.lra_courier.specs.inner.Told.{TellsSoFar, TellsAtEnd, Looks}

-- ---- what is found

-- what holds whatever follows holds of the stream
pub replies_ahead : (closed failed : Bool) (kind : AskKind) (direction : Direction) (bytes : List ℕ)
    (told : Result Outcome WireFault)
    → TellsSoFar kind direction bytes (Ok (Some told)) → Replies closed failed kind direction bytes told
replies_ahead closed failed kind direction bytes (Ok outcome) h = λ more end. h more
replies_ahead closed failed kind direction bytes (Err BadHead) h = λ more end. h.1 more
replies_ahead closed failed kind direction bytes (Err Chunked) h = λ more end. h.1 more
replies_ahead closed failed kind direction bytes (Err BadLength) h = λ more end. h.1 more
replies_ahead closed failed kind direction bytes (Err TooLarge) h = λ more end. h.1 more
replies_ahead closed failed kind direction bytes (Err Memory) h = absurd (h.0 refl)
replies_ahead closed failed kind direction bytes (Err Cut) h = absurd h.1
replies_ahead closed failed kind direction bytes (Err Io) h = absurd h.1

-- the stream ends with the bytes
only : (bytes more : List ℕ) (P : List ℕ → Type 0) → more ≡ [] → P bytes → P (bytes ++ more)
only bytes more P none p = subst P (sym (append-nil bytes) ∙ ap (λ bs. bytes ++ bs) (sym none)) p

pub replies_at_end : (failed : Bool) (kind : AskKind) (direction : Direction) (bytes : List ℕ)
    (told : Result Outcome WireFault)
    → TellsAtEnd kind direction bytes (Ok told) → Replies true failed kind direction bytes told
replies_at_end failed kind direction bytes (Ok outcome) h = λ more end. only bytes more
    (λ stream. (rest : List ℕ) × IsReply kind direction stream rest outcome) (end refl) h
replies_at_end failed kind direction bytes (Err BadHead) h = λ more end. only bytes more
    (λ stream. RefusesResponse stream BadHead) (end refl) h.2
replies_at_end failed kind direction bytes (Err Chunked) h = λ more end. only bytes more
    (λ stream. RefusesResponse stream Chunked) (end refl) h.2
replies_at_end failed kind direction bytes (Err BadLength) h = λ more end. only bytes more
    (λ stream. RefusesResponse stream BadLength) (end refl) h.2
replies_at_end failed kind direction bytes (Err TooLarge) h = λ more end. only bytes more
    (λ stream. RefusesResponse stream TooLarge) (end refl) h.2
replies_at_end failed kind direction bytes (Err Cut) h = λ more end. only bytes more
    (λ stream. RefusesResponse stream Cut) (end refl) h.2
replies_at_end failed kind direction bytes (Err Memory) h = absurd (h.0 refl)
replies_at_end failed kind direction bytes (Err Io) h = absurd (h.1 refl)

-- a response that is whole has this outcome, whatever follows
pub whole_replies : (kind : AskKind) (direction : Direction) (bytes : List ℕ) (code : ℕ) (body : List ℕ) (len : ℕ)
    (outcome : Outcome) → IsWhole bytes code body len
    → outcome ≡ classify kind direction code body → IsTrue (outcome_suits kind outcome) → (more : List ℕ)
    → (rest : List ℕ) × IsReply kind direction (bytes ++ more) rest outcome
whole_replies kind direction bytes code body len outcome whole class suits more = (
  drop len bytes ++ more,
  record {
    code = code;
    body = body;
    response = whole.stays more;
    class = class;
    suits =
        suits;
  },
)

-- the same at the end of the stream
pub end_replies : (kind : AskKind) (direction : Direction) (bytes : List ℕ) (old new : Option (List ℕ)) (code : ℕ)
    (body : List ℕ) (outcome : Outcome) → old ≡ Some bytes
    → IfBothKnown old new (λ all rest. IsResponse all code body rest) → outcome ≡ classify kind direction code body
    → IsTrue (outcome_suits kind outcome)
    → (rest : List ℕ) × IsReply kind direction bytes rest outcome
end_replies kind direction bytes None new code body outcome e h class suits = absurd cc
end_replies kind direction bytes (Some all) None code body outcome e h class suits = absurd h
end_replies kind direction bytes (Some all) (Some rest) code body outcome e h class suits =
    let same : all ≡ bytes =
    cc in (
      rest,
      record {
        code = code;
        body = body;
        response = subst
            (λ (bs : List ℕ). IsResponse bs code body rest) same h;
        class = class;
        suits = suits;
      },
    )

pub end_refuses : (bytes : List ℕ) (old : Option (List ℕ)) (fault : WireFault) → old ≡ Some bytes
    → IfSome old (λ all. RefusesResponse all fault) → RefusesResponse bytes fault
end_refuses bytes None fault e h = absurd cc
end_refuses bytes (Some all) fault e h = let same : all ≡ bytes = cc in
    subst (λ (bs : List ℕ). RefusesResponse bs fault) same h

-- a response that isn't whole awaits more bytes
pub open_here : (bytes : List ℕ) (wanted : ℕ) → IsOpen bytes wanted → AwaitsResponse bytes × (length bytes < 1048576)
open_here bytes wanted o = (
  subst AwaitsResponse (append-nil bytes)
      (o.awaits [] (subst (λ (bs : List ℕ). length bs < wanted) (sym (append-nil bytes)) o.few)),
  omega (arith, o.few, o.bound),
)

-- ---- the result stays

-- of what is later, no less is known
replies_on : (closed later failed broken : Bool) (kind : AskKind) (direction : Direction) (bytes : List ℕ)
    (told : Result Outcome WireFault) → (IsTrue closed → IsTrue later) → (IsTrue failed → IsTrue broken)
    → Replies closed failed kind direction bytes told → Replies later broken kind direction bytes told
replies_on closed later failed broken kind direction bytes (Ok outcome) c f h = λ more end. h more (λ e. end (c e))
replies_on closed later failed broken kind direction bytes (Err BadHead) c f h = λ more end. h more (λ e. end (c e))
replies_on closed later failed broken kind direction bytes (Err Chunked) c f h = λ more end. h more (λ e. end (c e))
replies_on closed later failed broken kind direction bytes (Err BadLength) c f h = λ more end. h more (λ e. end (c e))
replies_on closed later failed broken kind direction bytes (Err TooLarge) c f h = λ more end. h more (λ e. end (c e))
replies_on closed later failed broken kind direction bytes (Err Cut) c f h = λ more end. h more (λ e. end (c e))
replies_on closed later failed broken kind direction bytes (Err Io) c f h = f h
replies_on closed later failed broken kind direction bytes (Err Memory) c f h = h

-- a history that goes on from another without accepting bytes: what has happened stays
pub record Follows (old new : Carried) : Type 0 where
  pub kind : new.kind ≡ old.kind
  pub direction : new.direction ≡ old.direction
  pub sent : old.advance_by ≡ length old.request → new.advance_by ≡ length new.request
  pub taken : new.taken ≡ old.taken
  pub closed : IsTrue old.closed → IsTrue new.closed
  pub failed : IsTrue old.failed → IsTrue new.failed

same_replies : (old new : Carried) (told : Result Outcome WireFault) → Follows old new
    → Replies old.closed old.failed old.kind old.direction old.taken told
    → Replies new.closed new.failed new.kind new.direction new.taken told
same_replies old new told f h =
    let later = replies_on old.closed new.closed old.failed new.failed old.kind old.direction old.taken told f.closed
    f.failed h in
    subst (λ (k : AskKind). Replies new.closed new.failed k new.direction new.taken told) (sym f.kind)
    (subst (λ (d : Direction). Replies new.closed new.failed old.kind d new.taken told) (sym f.direction)
    (subst (λ (bs : List ℕ). Replies new.closed new.failed old.kind old.direction bs told) (sym f.taken) later))

pub comes_on : (old new : Carried) (told : Result Outcome CallFault) → Follows old new → Comes old told → Comes new told
comes_on old new (Ok outcome) f h = (f.sent h.0, same_replies old new (Ok outcome) f h.1)
comes_on old new (Err (Reply fault)) f h = (f.sent h.0, same_replies old new (Err fault) f h.1)
comes_on old new (Err (Send fault)) f h = (h.0, f.failed h.1)
comes_on old new (Err Unreached) f h = h

pub came_on : (old new : Carried) (came : Option (Result Outcome CallFault)) → Follows old new → IfSome came (Comes old)
    → IfSome came (Comes new)
came_on old new None f h = tt
came_on old new (Some told) f h = comes_on old new told f h

-- no byte is accepted once there is a result
no_room : (a b : Bool) (n m : ℕ) → m ≤ (if a || b || true then 0 else n) → m ≡ 0
no_room true true n m h = omega (arith, h)
no_room true false n m h = omega (arith, h)
no_room false true n m h = omega (arith, h)
no_room false false n m h = omega (arith, h)

no_bytes : (bytes : List ℕ) → length bytes ≡ 0 → bytes ≡ []
no_bytes [] e = refl
no_bytes (b ∷ bytes) e = absurd (omega (arith, e))

pub came_took : (h : Carried) (bytes : List ℕ) (came : Option (Result Outcome CallFault)) → h.came ≡ came → length bytes
    ≤ room_of h → IfSome came (Comes h) → IfSome came (Comes (took h bytes))
came_took h bytes None e fits c = tt
came_took h bytes (Some told) e fits c =
    let none : bytes ≡ [] = no_bytes bytes (no_room h.closed h.failed (1048576 - length h.taken) (length bytes)
    (subst (λ (o : Option (Result Outcome CallFault)). length bytes ≤ (if h.closed || h.failed
    || is_some o then 0 else 1048576 - length h.taken)) e fits)) in
    comes_on h (took h bytes) told (record {
      kind = refl;
      direction = refl;
      sent = λ s. s;
      taken = ap (λ bs. h.taken ++ bs) none ∙ append-nil h.taken;
      closed = λ s. s;
      failed = λ s. s;
    }) c

pub carried_took : (h : Carried) (bytes : List ℕ) → IsCarried h → length bytes ≤ room_of h → IsCarried (took h bytes)
carried_took h bytes c fits = record {
  within = c.within;
  bound = omega (
    arith,
    length-append h.taken bytes,
    room_fits h.closed h.failed (is_some h.came) (length h.taken)
        (length bytes) c.bound fits,
  );
  came = came_took h bytes h.came refl fits c.came;
}
  where
    room_fits : (a b o : Bool) (n m : ℕ) → n ≤ 1048576 → m ≤ (if a || b || o then 0 else 1048576 - n) → n + m ≤ 1048576
    room_fits true b o n m bound h = omega (arith, bound, h)
    room_fits false true o n m bound h = omega (arith, bound, h)
    room_fits false false true n m bound h = omega (arith, bound, h)
    room_fits false false false n m bound h = omega (arith, bound, h)

pub gone_fits : (h : Carried) (count : ℕ) → IsCarried h → count ≤ length (drop h.advance_by h.request)
    → h.advance_by + count
    ≤ length h.request
gone_fits h count c fits = omega (arith, c.within, fits, length-drop h.advance_by h.request)

pub carried_went : (h : Carried) (count : ℕ) → IsCarried h → count ≤ length (drop h.advance_by h.request)
    → IsCarried (went h count)
carried_went h count c fits = record {
  within = gone_fits h count c fits;
  bound = c.bound;
  came = came_on h (went h count) h.came (record {
    kind = refl;
    direction = refl;
    sent = λ e. omega (arith, e, gone_fits h count c fits);
    taken = refl;
    closed = λ s. s;
    failed = λ s. s;
  }) c.came;
}

pub carried_finished : (h : Carried) → IsCarried h → IsCarried (finished h)
carried_finished h c = record {
  within = c.within;
  bound = c.bound;
  came = came_on h (finished h) h.came (record {
    kind = refl;
    direction = refl;
    sent = λ s. s;
    taken = refl;
    closed = λ s. refl;
    failed = λ s. s;
  }) c.came;
}

pub carried_broken : (h : Carried) → IsCarried h → IsCarried (broken h)
carried_broken h c = record {
  within = c.within;
  bound = c.bound;
  came = came_on h (broken h) h.came (record {
    kind = refl;
    direction = refl;
    sent = λ s. s;
    taken = refl;
    closed = λ s. s;
    failed = λ s. refl;
  }) c.came;
}

pub carried_tells : (h : Carried) (told : Result Outcome CallFault) → IsCarried h → Comes h told
    → IsCarried (tells h told)
carried_tells h told c comes = record {
  within = c.within;
  bound = c.bound;
  came = comes_on h (tells h told) told (record {
    kind = refl;
    direction = refl;
    sent = λ s. s;
    taken = refl;
    closed = λ s. s;
    failed = λ s. s;
  }) comes;
}

-- the outcome of a response is that of an answer
pub reply_answers : (calling : Calling) (bytes rest : List ℕ) (outcome : Outcome)
    → IsReply calling.kind calling.direction bytes rest outcome → IsAnswer calling bytes rest outcome
reply_answers calling bytes rest outcome r = record {
  code = r.code;
  body = r.body;
  response = r.response;
  class =
      r.class;
}

-- and suits the kind
silent_suits : (kind : AskKind) → IsTrue (outcome_suits kind Silent)
silent_suits ask.Complete = refl
silent_suits ask.Compensate = refl
silent_suits ask.Status = refl
silent_suits ask.Forget = refl
silent_suits ask.After = refl

pub comes_suits : (h : Carried) (told : Result Outcome CallFault) → Comes h told
    → IsTrue (outcome_suits h.kind (result_unwrap_or told Silent))
comes_suits h (Ok outcome) c = (c.1 [] (λ e. refl)).1.suits
comes_suits h (Err fault) c = silent_suits h.kind

-- a response that was found
pub look_comes : (h : Carried) (bytes : List ℕ) (found : Option (Result Outcome WireFault)) (outcome : Outcome)
    → IsSent h → bytes ≡ h.taken
    → Looks h.closed h.failed h.kind h.direction bytes (Ok found) → found ≡ Some (Ok outcome) → Comes h (Ok outcome)
look_comes h bytes found outcome sent same looks is =
    let here = subst (λ (o : Option (Result Outcome WireFault)). Looks h.closed h.failed h.kind h.direction bytes
    (Ok o)) is looks in
    (sent, subst (λ (bs : List ℕ). Replies h.closed h.failed h.kind h.direction bs (Ok outcome)) same here)
