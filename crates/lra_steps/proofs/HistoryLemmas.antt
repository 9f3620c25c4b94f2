-- What keeps a history served.
use Rattle.std.proofs.Common.{◌≡◌, ℕ, ◌+◌, ◌-◌, ◌<◌, ◌≤◌, Bool, true, false, cond, ◌||◌, ◌==◌, List, [], ◌∷◌, ◌++◌, map}
use Rattle.std.proofs.Common.{length, take, drop, flat_map, refl, ap, sym, ◌∙◌, subst, arith, append_assoc, append-nil}
use Rattle.std.proofs.Common.{length-append, length-drop, Option, Some, None, inl, inr}
use Rattle.std.specs.declared.alloc.AllocError.{AllocError}
use Rattle.std.specs.Prelude.{Result, Ok, Err, is_ok, OnOk, OnErr, ◌⊎◌, nat_le, is_some, IsTrue}
use Rattle.std.proofs.lemmas.Bool.Decides.{nat_tests}
use Rattle.std.specs.Option.{option_map}
use Rattle.std.proofs.lemmas.List.{take-append-drop, flat_map_more}
use Rattle.lra_wire.specs.declared.fault.WireFault.{WireFault}
use Rattle.lra_wire.specs.declared.request.RequestRead.{RequestRead}
use Rattle.lra_wire.specs.Request.{Request, request_of}
use Rattle.lra_wire.specs.Coded.{IsRequestBy, RefusesRequestBy, most_of}
use Rattle.lra_wire.proofs.CodedLemmas.{refuses_by}
use Rattle.lra_front.specs.declared.stream.StreamEnd.{StreamEnd}
use Rattle.lra_front.specs.declared.stream.StreamEnd.TheVariants.{Done, Refused, WriteFault}
use Rattle.lra_front.specs.Replies.{reply_bytes}
use Rattle.lra_front.specs.Streams.{is_head, closes_after}
use Rattle.lra_front.specs.Transcripts.{IsFront}
use Rattle.lra_steps.specs.History.{History, IsServed, IsLasting, IsOpenSo, Replies, SpellsBy, StandsAt, Turn}
use Rattle.lra_steps.specs.History.{plain, replies, room_of, is_last, turn_reply, fault_reply, end_reply, took}
use Rattle.lra_steps.specs.History.{begun_by, finished, ordered}
use Rattle.lra_steps.specs.History.{answered, lost, ended_by, went}
use Rattle.lra_steps.specs.Steps.{IsFree, Ends}
use Rattle.lra_steps.specs.declared.connection.Reply.{Reply}
use Rattle.lra_steps.specs.inner.Ends.{EndsWithout}
use Rattle.lra_steps.specs.inner.Fields.{backs, fronts, turn_of}
use Rattle.lra_steps.proofs.TurnLemmas.{Spells-more, StandsAt-more, Spells-next, replies-push, stays-push, closes-push}
use Rattle.lra_steps.proofs.TurnLemmas.{before-push, reply_some}

-- ---- nothing has come

served_fresh : (chunked : Bool) (instance : ℕ) (base : List ℕ) → IsServed (begun_by chunked instance base)
served_fresh chunked instance base = record {
  behind = [];
  spelled = refl;
  standing = refl;
  open_so = tt;
  replied = refl;
  bound = omega arith;
}

pub served_first : (chunked : Bool) (instance : ℕ) (base kept out : List ℕ) (reads writes : List (List ℕ × ℕ))
    (turns : List (RequestRead × Reply)) → kept ≡ [] → out ≡ [] → reads ≡ [] → turns ≡ [] → writes ≡ []
    → IsServed (record {
      instance = instance;
      base = base;
      chunked = chunked;
      taken = flat_map (λ t. t) (backs reads);
      kept = kept;
      closed = false;
      turns = map turn_of turns;
      stands = None;
      ended = None;
      sent = flat_map (λ t. t) (fronts writes);
      out = out;
    })
served_first chunked instance base kept out reads writes turns k o r t w =
    subst IsServed (sym (λ i. record (begun_by chunked instance base) {
      taken = flat_map (λ t. t) (backs (r i));
      kept = k i;
      turns = map turn_of (t i);
      sent = flat_map (λ t. t) (fronts (w i));
      out = o i;
    })) (served_fresh chunked instance base)

-- ---- bytes come

-- there is room while the stream goes on
room_open : (most : ℕ) (closed : Bool) (ended : Option StreamEnd) (n m : ℕ) → 0 < m → m
    ≤ cond (closed || is_some ended) 0 (most - n) → (ended ≡ None) × (m + n ≤ most)
room_open most true ended n m some h = absurd (omega (arith, some, h))
room_open most false (Some end) n m some h = absurd (omega (arith, some, h))
room_open most false None n m some h = (refl, omega (arith, some, h))

open_took : (o : Option StreamEnd) (h : History) (more : List ℕ) → o ≡ None → IsOpenSo o h → IsOpenSo o (took h more)
open_took None h more e s = s
open_took (Some end) h more e s = absurd cc

replied_took : (o : Option StreamEnd) (h : History) (more : List ℕ) → o ≡ None → Replies o h → Replies o (took h more)
replied_took None h more e r = r
replied_took (Some end) h more e r = absurd cc

pub served_took : (h : History) (more : List ℕ) → IsServed h → length more ≤ room_of h → IsServed (took h more)
served_took h [] s fits =
    subst IsServed (λ i. record h { taken = sym (append-nil h.taken) i; kept = sym (append-nil h.kept) i }) s
served_took h (b ∷ more) s fits =
    let room = room_open (most_of h.chunked) h.closed h.ended (length h.kept) (length (b ∷ more)) (omega arith) fits in
    record {
      behind = s.behind ++ b ∷ more;
      spelled = Spells-more h.chunked h.taken (map plain h.turns) s.behind (b ∷ more) s.spelled;
      standing = StandsAt-more h.chunked h.stands s.behind h.kept (b ∷ more) s.standing;
      open_so = open_took h.ended h (b ∷ more) room.0 s.open_so;
      replied = replied_took h.ended h (b ∷ more) room.0 s.replied;
      bound = omega (arith, room.1, length-append h.kept (b ∷ more));
    }

-- ---- no more bytes come

open_finished : (o : Option StreamEnd) (h : History) → IsOpenSo o h → IsOpenSo o (finished h)
open_finished None h s = s
open_finished (Some end) h s = (s.0, inr refl)

replied_finished : (o : Option StreamEnd) (h : History) → Replies o h → Replies o (finished h)
replied_finished None h r = r
replied_finished (Some Done) h r = r
replied_finished (Some (Refused fault)) h r = r
replied_finished (Some WriteFault) h r = r

pub served_finished : (h : History) → IsServed h → IsServed (finished h)
served_finished h s = record {
  behind = s.behind;
  spelled = s.spelled;
  standing = s.standing;
  open_so = open_finished h.ended h s.open_so;
  replied = replied_finished h.ended h s.replied;
  bound = s.bound;
}

-- ---- a request is read

open_ordered : (o : Option StreamEnd) (h : History) (request : Request) (rest : List ℕ) → o ≡ None → IsOpenSo o h
    → IsOpenSo o (ordered h request rest)
open_ordered None h request rest e s = s
open_ordered (Some end) h request rest e s = absurd cc

replied_ordered : (o : Option StreamEnd) (h : History) (request : Request) (rest : List ℕ) → o ≡ None → Replies o h
    → Replies o (ordered h request rest)
replied_ordered None h request rest e r = r
replied_ordered (Some end) h request rest e r = absurd cc

-- where no request stands, the requests that were answered are all that were read
pub all_read : (h : History) → IsServed h → h.stands ≡ None → SpellsBy h.chunked h.taken (map plain h.turns) h.kept
all_read h s none = let here : s.behind ≡ h.kept = subst
    (λ (o : Option Request). StandsAt h.chunked o s.behind h.kept) none s.standing in
    subst (SpellsBy h.chunked h.taken (map plain h.turns)) here s.spelled

pub served_ordered : (h : History) (request : Request) (n : ℕ) → IsServed h → IsFree h
    → IsRequestBy h.chunked h.kept request (drop n h.kept) → IsServed (ordered h request (drop n h.kept))
served_ordered h request n s free is = record {
  behind = h.kept;
  spelled = all_read h s free.1;
  standing = is;
  open_so = open_ordered h.ended h request (drop n h.kept) free.0 s.open_so;
  replied = replied_ordered h.ended h request (drop n h.kept) free.0 s.replied;
  bound = omega (arith, s.bound, length-drop n h.kept);
}

-- ---- a request is answered

-- while a request stands the stream goes on
goes_on : (o : Option StreamEnd) (h : History) (request : Request) → IsOpenSo o h → h.stands ≡ Some request → o ≡ None
goes_on None h request s e = refl
goes_on (Some end) h request s e = let none : None ≡ Some request = sym s.0 ∙ e in absurd cc

open_answered : (b : Bool) (h : History) (turn : Turn) → closes_after (is_last h) turn.request ≡ b → IsOpenSo None h
    → IsOpenSo (cond b (Some Done) None) (answered h turn)
open_answered true h turn e s = (refl, inl (closes-push 999 h.turns turn s e))
open_answered false h turn e s = stays-push 999 h.turns turn s e

replied_answered : (b : Bool) (h : History) (turn : Turn) → closes_after (is_last h) turn.request ≡ b → IsOpenSo None h
    → Replies None h → Replies (cond b (Some Done) None) (answered h turn)
replied_answered b h turn e s r = go b e
  where
    text : List ℕ
    text = turn_reply h.base (is_last h) turn

    whole : h.sent ++ (h.out ++ text) ≡ replies h.base 999 (h.turns ++ turn ∷ [])
    whole = sym (append_assoc h.sent h.out text) ∙ ap (λ xs. xs ++ text) r ∙ sym (replies-push h.base 999 h.turns turn)

    go : (b : Bool) → closes_after (is_last h) turn.request ≡ b → Replies (cond b (Some Done) None) (answered h turn)
    go true e = (whole, inr (closes-push 999 h.turns turn s e))
    go false e = whole

pub served_answered : (h : History) (turn : Turn) → IsServed h → h.stands ≡ Some turn.request
    → IsServed (answered h turn)
served_answered h turn s stands =
    let none = goes_on h.ended h turn.request s.open_so stands in
    let so : IsOpenSo None h = subst (λ (o : Option StreamEnd). IsOpenSo o h) none s.open_so in
    record {
      behind = h.kept;
      spelled = Spells-next h.chunked h.taken h.turns s.behind turn h.kept s.spelled
          (subst (λ (o : Option Request). StandsAt h.chunked o s.behind h.kept) stands s.standing);
      standing = refl;
      open_so = open_answered (closes_after (is_last h) turn.request) h turn refl so;
      replied = replied_answered (closes_after (is_last h) turn.request) h turn refl so
          (subst (λ (o : Option StreamEnd). Replies o h) none s.replied);
      bound = s.bound;
    }

-- or its reply is lost
lost_front : (h : History) (turn : Turn) → IsOpenSo None h → Replies None h → Replies (Some WriteFault) (lost h turn)
lost_front h turn s r =
    let text : List ℕ = turn_reply h.base (is_last h) turn in (
      (
        text,
        replies-push h.base 999 h.turns turn ∙ ap (λ xs. xs ++ text) (sym r),
        reply_some turn.answered.instance h.base turn.answered.answer (is_head turn.request)
            (closes_after (is_last h) turn.request),
      ),
      before-push 999 h.turns turn s,
    )

pub served_lost : (h : History) (turn : Turn) → IsServed h → h.stands ≡ Some turn.request → IsServed (lost h turn)
served_lost h turn s stands =
    let none = goes_on h.ended h turn.request s.open_so stands in
    let so : IsOpenSo None h = subst (λ (o : Option StreamEnd). IsOpenSo o h) none s.open_so in
    record {
      behind = h.kept;
      spelled = Spells-next h.chunked h.taken h.turns s.behind turn h.kept s.spelled
          (subst (λ (o : Option Request). StandsAt h.chunked o s.behind h.kept) stands s.standing);
      standing = refl;
      open_so = (refl, inl tt);
      replied = lost_front h turn so (subst (λ (o : Option StreamEnd). Replies o h) none s.replied);
      bound = s.bound;
    }

-- ---- the connection ends

ends_after : (end : StreamEnd) (h : History) → IsOpenSo None h → h.sent ++ h.out ≡ replies h.base 999 h.turns
    → Ends end h → Replies (Some end) (ended_by h end)
ends_after Done h s r e = (ap (λ xs. h.sent ++ xs) (append-nil h.out) ∙ r, inl (e.1, s))
ends_after (Refused fault) h s r e = (
  sym (append_assoc h.sent h.out (fault_reply h.instance h.base fault))
      ∙ ap (λ xs. xs ++ fault_reply h.instance h.base fault) r,
  why e,
  s,
)
  where
    why : Ends (Refused fault) h → RefusesRequestBy h.chunked h.kept fault
    why (inl f) = refuses_by h.chunked h.kept fault f.1
    why (inr f) = subst (λ (f : WireFault). RefusesRequestBy h.chunked h.kept f) (sym f.1) f.2
ends_after WriteFault h s r e = absurd e

lasting : (end : StreamEnd) (h : History) → Ends end h → IsLasting h.chunked end h.turns h.kept ⊎ IsTrue h.closed
lasting Done h e = inr e.0
lasting (Refused fault) h (inl e) = inl e.1
lasting (Refused fault) h (inr e) = inr e.0
lasting WriteFault h e = absurd e

pub served_ended : (h : History) (end : StreamEnd) → IsServed h → IsFree h → Ends end h → IsServed (ended_by h end)
served_ended h end s free e =
    let so : IsOpenSo None h = subst (λ (o : Option StreamEnd). IsOpenSo o h) free.0 s.open_so in
    record {
      behind = s.behind;
      spelled = s.spelled;
      standing = s.standing;
      open_so = (free.1, lasting end h e);
      replied = ends_after end h so (subst (λ (o : Option StreamEnd). Replies o h) free.0 s.replied) e;
      bound = s.bound;
    }

-- ---- bytes are sent

open_went : (o : Option StreamEnd) (h : History) (n : ℕ) → IsOpenSo o h → IsOpenSo o (went h n)
open_went None h n s = s
open_went (Some end) h n s = s

all_out : (h : History) (n : ℕ) → h.sent ++ h.out ≡ (h.sent ++ take n h.out) ++ drop n h.out
all_out h n = ap (λ xs. h.sent ++ xs) (sym (take-append-drop n h.out))
    ∙ sym (append_assoc h.sent (take n h.out) (drop n h.out))

replied_went : (o : Option StreamEnd) (h : History) (n : ℕ) → Replies o h → Replies o (went h n)
replied_went None h n r = sym (all_out h n) ∙ r
replied_went (Some Done) h n r = (sym (all_out h n) ∙ r.0, r.1)
replied_went (Some (Refused fault)) h n r = (sym (all_out h n) ∙ r.0, r.1, r.2)
replied_went (Some WriteFault) h n r = (
  subst (λ (xs : List ℕ). IsFront xs (replies h.base 999 h.turns)) (all_out h n)
      r.0,
  r.1,
)

pub served_went : (h : History) (n : ℕ) → IsServed h → IsServed (went h n)
served_went h n s = record {
  behind = s.behind;
  spelled = s.spelled;
  standing = s.standing;
  open_so = open_went h.ended h n s.open_so;
  replied = replied_went h.ended h n s.replied;
  bound = s.bound;
}

-- ---- what the fields mean

dropped : (front more : List ℕ) → drop (length front) (front ++ more) ≡ more
dropped [] more = refl
dropped (b ∷ front) more = dropped front more

-- a piece came
pub took_is : (h : History) (more kept : List ℕ) (old new : List (List ℕ)) (place : ℕ) → h.taken ≡ flat_map (λ t. t) old
    → place ≡ length h.kept → kept ≡ h.kept ++ more → new ≡ old ++ drop place kept ∷ []
    → record h { taken = flat_map (λ t. t) new; kept = kept } ≡ took h more
took_is h more kept old new place t p k n =
    let last : drop place kept ≡ more = ap (λ x. drop x kept) p ∙ ap (drop (length h.kept)) k ∙ dropped h.kept more in
    let all : flat_map (λ t. t) new ≡ h.taken ++ more =
    ap (flat_map (λ t. t)) (n ∙ ap (λ x. old ++ x ∷ []) last) ∙ sym (flat_map_more (λ (t : List ℕ). t) [] old more)
    ∙ ap (λ xs. xs ++ more) (sym t) in
    λ i. record h { taken = all i; kept = k i }

-- bytes were sent
pub went_is : (h : History) (count : ℕ) (out : List ℕ) (old new : List (List ℕ)) → h.sent ≡ flat_map (λ t. t) old → new
    ≡ old ++ take count h.out ∷ [] → out ≡ drop count h.out
    → record h { sent = flat_map (λ t. t) new; out = out } ≡ went h count
went_is h count out old new s n o =
    let all : flat_map (λ t. t) new ≡ h.sent ++ take count h.out =
    ap (flat_map (λ t. t)) n ∙ sym (flat_map_more (λ (t : List ℕ). t) [] old (take count h.out))
    ∙ ap (λ xs. xs ++ take count h.out) (sym s) in
    λ i. record h { sent = all i; out = o i }

-- a request was read
pub ordered_is : (h : History) (n : ℕ) (kept : List ℕ) (request : Request) → kept ≡ drop n h.kept
    → record h { kept = kept; stands = Some request } ≡ ordered h request (drop n h.kept)
ordered_is h n kept request k = λ i. record h { kept = k i; stands = Some request }

-- no request stands
pub none_stands : (o : Option RequestRead) → is_some o ≡ false → option_map request_of o ≡ None
none_stands None e = refl
none_stands (Some request) e = absurd cc

-- the connection ended
pub ended_is : (h : History) (end : StreamEnd) (out : List ℕ) → out ≡ h.out ++ end_reply h.instance h.base end
    → record h { out = out; ended = Some end } ≡ ended_by h end
ended_is h end out o = λ i. record h { out = o i; ended = Some end }

pub ends_without : (h : History) (end : StreamEnd) → EndsWithout h.chunked h.closed h.kept (Some end) → Ends end h
ends_without h Done e = e
ends_without h (Refused fault) e = inr e
ends_without h WriteFault e = absurd e

-- and nothing is replied where no more bytes come
pub quiet_end : (h : History) (end : StreamEnd) → EndsWithout h.chunked h.closed h.kept (Some end) → h.out ≡ h.out
    ++ end_reply h.instance h.base end
quiet_end h Done e = sym (append-nil h.out)
quiet_end h (Refused fault) e = sym (append-nil h.out) ∙ ap (λ f. h.out ++ end_reply h.instance h.base (Refused f))
    (sym e.1)
quiet_end h WriteFault e = absurd e

-- how many requests are left, beside a last one
pub last_is : (left n : ℕ) → left ≡ 999 - n → (left == 0) ≡ nat_le 999 n
last_is left n e = grind (arith, nat_tests)

-- the reply to a turn, from the parts of its request
pub reply_is : (h : History) (turn : Turn) (base : List ℕ) (left : ℕ) (head close : Bool) → base ≡ h.base → left
    ≡ 999 - length h.turns → head ≡ is_head turn.request
    → close ≡ closes_after (left == 0) turn.request → reply_bytes turn.answered.instance base turn.answered.answer head
    close ≡ turn_reply h.base (is_last h) turn
reply_is h turn base left head close b l d c =
    let instance = turn.answered.instance in
    let a = turn.answered.answer in
    ap (λ p. reply_bytes instance p a head close) b ∙ ap (λ x. reply_bytes instance h.base a x close) d
    ∙ ap (λ x. reply_bytes instance h.base a (is_head turn.request) x)
    (c ∙ ap (λ x. closes_after x turn.request) (last_is left (length h.turns) l))

closing : (h : History) (turn : Turn) (left : ℕ) (close : Bool) → left ≡ 999 - length h.turns → close
    ≡ closes_after (left == 0) turn.request
    → cond close (Some Done) None ≡ cond (closes_after (is_last h) turn.request) (Some Done) None
closing h turn left close l c = ap (λ x. cond x (Some Done) None) (c ∙ ap (λ x. closes_after x turn.request)
    (last_is left (length h.turns) l))

-- the request that stands was replied to
pub served_told : (h : History) (turn : Turn) (base : List ℕ) (left : ℕ) (head close : Bool)
    (replied : Result (Unit {0}) AllocError) (turns : List Turn) (ended : Option StreamEnd) (out : List ℕ)
    → IsServed h → h.stands ≡ Some turn.request → base ≡ h.base → left ≡ 999 - length h.turns → head
    ≡ is_head turn.request → close ≡ closes_after (left == 0) turn.request
    → turns ≡ h.turns ++ turn ∷ [] → ended ≡ cond (is_ok replied) (cond close (Some Done) None) (Some WriteFault)
    → OnOk replied (out ≡ h.out ++ reply_bytes turn.answered.instance base turn.answered.answer head close)
    → OnErr replied (out ≡ h.out)
    → IsServed (record h { turns = turns; stands = None; ended = ended; out = out })
served_told h turn base left head close (Ok u) turns ended out s stands b l d c t e ok err =
    let so = e ∙ closing h turn left close l c in
    let text = ok ∙ ap (λ xs. h.out ++ xs) (reply_is h turn base left head close b l d c) in
    subst IsServed (sym (λ i. record h { turns = t i; stands = None; ended = so i; out = text i }))
    (served_answered h turn s stands)
served_told h turn base left head close (Err f) turns ended out s stands b l d c t e ok err =
    subst IsServed (sym (λ i. record h { turns = t i; stands = None; ended = e i; out = err i }))
    (served_lost h turn s stands)

pub left_one : (h : History) (turn : Turn) (left now : ℕ) (turns : List Turn) → left ≡ 999 - length h.turns → now
    ≡ left - 1 → turns ≡ h.turns ++ turn ∷ [] → now ≡ 999 - length turns
left_one h turn left now turns l n t = omega (arith, l, n, ap length t, length-append h.turns (turn ∷ []))
