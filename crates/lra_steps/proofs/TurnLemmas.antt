-- The requests that bytes spell and the replies to them, as more bytes come and one more request is answered.
use Rattle.std.proofs.Common.{◌≡◌, ◌<◌, ℕ, zero, suc, Bool, true, false, ◌||◌, List, [], ◌∷◌, ◌++◌, map, length, refl}
use Rattle.std.proofs.Common.{ap, sym, ◌∙◌, subst, arith, append_assoc, append-nil, Option, Some, None}
use Rattle.std.specs.Prelude.{nat_le, ⊤}
use Rattle.std.proofs.lemmas.Bool.Decides.{nat_tests}
use Rattle.std.proofs.lemmas.List.{map-append}
use Rattle.lra_wire.specs.Request.{Request}
use Rattle.lra_wire.specs.Coded.{IsRequestBy}
use Rattle.lra_wire.proofs.CodedLemmas.{request_more_by}
use Rattle.lra_commands.specs.Counters.{Setting}
use Rattle.lra_front.specs.declared.answer.Answer.{Answer}
use Rattle.lra_front.specs.Replies.{reply_bytes}
use Rattle.lra_front.specs.Streams.{closes_after, is_head}
use Rattle.lra_front.specs.Transcripts.{Turn as FrontTurn, Spells, StaysOpen, StaysOpenBefore, ClosesLast}
use Rattle.lra_front.specs.Transcripts.{replies as front_replies, turn_text}
use Rattle.lra_front.proofs.Transcribed.{closes_more, before_more}
use Rattle.lra_steps.specs.History.{SpellsBy, StandsAt, Turn, plain, turn_reply, replies}

-- ---- one coordinator

-- one more turn
plain-push : (turns : List Turn) (turn : Turn) → map plain turns ++ plain turn ∷ [] ≡ map plain (turns ++ turn ∷ [])
plain-push turns turn = sym (map-append plain turns (turn ∷ []))

-- ---- what is spelled

-- more bytes come
pub Spells-more : (chunked : Bool) (bytes : List ℕ) (turns : List FrontTurn) (rest more : List ℕ)
    → SpellsBy chunked bytes turns rest → SpellsBy chunked (bytes ++ more) turns (rest ++ more)
Spells-more chunked bytes [] rest more h = ap (λ xs. xs ++ more) h
Spells-more chunked bytes (turn ∷ turns) rest more h = (
  h.0 ++ more,
  request_more_by chunked bytes more turn.request h.0 h.1,
  Spells-more chunked h.0 turns rest more h.2,
)

pub StandsAt-more : (chunked : Bool) (stands : Option Request) (bytes rest more : List ℕ)
    → StandsAt chunked stands bytes rest → StandsAt chunked stands (bytes ++ more) (rest ++ more)
StandsAt-more chunked None bytes rest more h = ap (λ xs. xs ++ more) h
StandsAt-more chunked (Some request) bytes rest more h = request_more_by chunked bytes more request rest h

-- where chunked bodies are refused, the requests are those of the HTTP interface
pub spells_plain : (bytes : List ℕ) (turns : List FrontTurn) (rest : List ℕ) → SpellsBy false bytes turns rest
    → Spells bytes turns rest
spells_plain bytes [] rest h = h
spells_plain bytes (turn ∷ turns) rest h = (h.0, h.1, spells_plain h.0 turns rest h.2)

-- the first request of the rest is one more
front-next : (chunked : Bool) (bytes : List ℕ) (turns : List FrontTurn) (rest : List ℕ) (turn : FrontTurn)
    (after : List ℕ) → SpellsBy chunked bytes turns rest → IsRequestBy chunked rest turn.request after
    → SpellsBy chunked bytes (turns ++ turn ∷ []) after
front-next chunked bytes [] rest turn after h r = (
  after,
  subst (λ (xs : List ℕ). IsRequestBy chunked xs turn.request after) (sym h) r,
  refl,
)
front-next chunked bytes (first ∷ turns) rest turn after h r =
    (h.0, h.1, front-next chunked h.0 turns rest turn after h.2 r)

pub Spells-next : (chunked : Bool) (bytes : List ℕ) (turns : List Turn) (rest : List ℕ) (turn : Turn)
    (after : List ℕ) → SpellsBy chunked bytes (map plain turns) rest → IsRequestBy chunked rest turn.request after
    → SpellsBy chunked bytes (map plain (turns ++ turn ∷ [])) after
Spells-next chunked bytes turns rest turn after h r =
    subst (λ (ts : List FrontTurn). SpellsBy chunked bytes ts after) (plain-push turns turn)
    (front-next chunked bytes (map plain turns) rest (plain turn) after h r)

-- ---- what is replied

-- there are at least so many turns
abbrev reaches : {T : Type 0} → ℕ → List T → Bool
reaches zero turns = true
reaches (suc n) [] = false
reaches (suc n) (turn ∷ turns) = reaches n turns

reaches_is : {T : Type 0} (n : ℕ) (turns : List T) → nat_le n (length turns) ≡ reaches n turns
reaches_is zero turns = grind (arith, nat_tests)
reaches_is (suc n) [] = grind (arith, nat_tests)
reaches_is (suc n) (turn ∷ turns) = let one : nat_le (suc n) (length (turn ∷ turns)) ≡ nat_le n (length turns) = grind
    (arith, nat_tests) in one ∙ reaches_is n turns

one_more : (base : List ℕ) (n : ℕ) (turns : List Turn) (turn : Turn) → replies base n (turns ++ turn ∷ [])
    ≡ replies base n turns ++ turn_reply base (reaches n turns) turn
one_more base zero [] turn = append-nil (turn_reply base true turn)
one_more base (suc n) [] turn = append-nil (turn_reply base false turn)
one_more base zero (first ∷ turns) turn =
    ap (λ xs. turn_reply base true first ++ xs) (one_more base zero turns turn)
    ∙ sym (append_assoc (turn_reply base true first) (replies base zero turns) (turn_reply base true turn))
one_more base (suc n) (first ∷ turns) turn =
    ap (λ xs. turn_reply base false first ++ xs) (one_more base n turns turn)
    ∙ sym (append_assoc (turn_reply base false first) (replies base n turns) (turn_reply base (reaches n turns) turn))

-- one more request is answered, which may be the last that is accepted
pub replies-push : (base : List ℕ) (n : ℕ) (turns : List Turn) (turn : Turn) → replies base n (turns ++ turn ∷ [])
    ≡ replies base n turns ++ turn_reply base (nat_le n (length turns)) turn
replies-push base n turns turn = one_more base n turns turn ∙ ap (λ b. replies base n turns ++ turn_reply base b turn)
    (sym (reaches_is n turns))

reaches_plain : (n : ℕ) (turns : List Turn) → reaches n (map plain turns) ≡ reaches n turns
reaches_plain zero turns = refl
reaches_plain (suc n) [] = refl
reaches_plain (suc n) (turn ∷ turns) = reaches_plain n turns

-- ---- when the stream is closed

last_closes : (b : Bool) → (b || true) ≡ false → ⊥
last_closes true e = cc
last_closes false e = cc

stays : (n : ℕ) (turns : List FrontTurn) (turn : FrontTurn) → StaysOpen n turns
    → closes_after (reaches n turns) turn.request ≡ false → StaysOpen n (turns ++ turn ∷ [])
stays zero [] turn h e = absurd (last_closes turn.request.close e)
stays (suc n) [] turn h e = (e, tt)
stays zero (first ∷ turns) turn h e = absurd h
stays (suc n) (first ∷ turns) turn h e = (h.0, stays n turns turn h.1 e)

-- the stream stays open after it
pub stays-push : (n : ℕ) (turns : List Turn) (turn : Turn) → StaysOpen n (map plain turns)
    → closes_after (nat_le n (length turns)) turn.request ≡ false
    → StaysOpen n (map plain (turns ++ turn ∷ []))
stays-push n turns turn h e =
    subst (StaysOpen n) (plain-push turns turn)
    (stays n (map plain turns) (plain turn) h (ap (λ b. closes_after b turn.request)
    (reaches_plain n turns ∙ sym (reaches_is n turns)) ∙ e))

closes : (n : ℕ) (turns : List FrontTurn) (turn : FrontTurn) → StaysOpen n turns
    → closes_after (reaches n turns) turn.request ≡ true → ClosesLast n (turns ++ turn ∷ [])
closes zero [] turn h e = tt
closes (suc n) [] turn h e = e
closes zero (first ∷ turns) turn h e = absurd h
closes (suc n) (first ∷ turns) turn h e = closes_more n first (turns ++ turn ∷ []) h.0 (closes n turns turn h.1 e)

-- or is closed
pub closes-push : (n : ℕ) (turns : List Turn) (turn : Turn) → StaysOpen n (map plain turns)
    → closes_after (nat_le n (length turns)) turn.request ≡ true
    → ClosesLast n (map plain (turns ++ turn ∷ []))
closes-push n turns turn h e =
    subst (ClosesLast n) (plain-push turns turn)
    (closes n (map plain turns) (plain turn) h (ap (λ b. closes_after b turn.request)
    (reaches_plain n turns ∙ sym (reaches_is n turns)) ∙ e))

before : (n : ℕ) (turns : List FrontTurn) (turn : FrontTurn) → StaysOpen n turns
    → StaysOpenBefore n (turns ++ turn ∷ [])
before zero [] turn h = tt
before (suc n) [] turn h = tt
before zero (first ∷ turns) turn h = absurd h
before (suc n) (first ∷ turns) turn h = before_more n first (turns ++ turn ∷ []) h.0 (before n turns turn h.1)

-- or its reply is lost
pub before-push : (n : ℕ) (turns : List Turn) (turn : Turn) → StaysOpen n (map plain turns)
    → StaysOpenBefore n (map plain (turns ++ turn ∷ []))
before-push n turns turn h = subst (StaysOpenBefore n) (plain-push turns turn)
    (before n (map plain turns) (plain turn) h)

-- a reply has some bytes
pub reply_some : (instance : ℕ) (base : List ℕ) (a : Answer) (head close : Bool) → 0
    < length (reply_bytes instance base a head close)
unfolding reply_bytes
reply_some instance base a head close = omega arith

-- ---- one coordinator's replies

-- each answer is of that instance
abbrev pub AreOf : ℕ → List Turn → Type 0
AreOf instance [] = ⊤
AreOf instance (turn ∷ turns) = (turn.answered.instance ≡ instance) × AreOf instance turns

one_reply : (c : Setting) (last : Bool) (turn : Turn) → turn.answered.instance ≡ c.instance
    → turn_reply c.base last turn ≡ turn_text c last (plain turn)
one_reply c last turn e = ap (λ i. reply_bytes i c.base turn.answered.answer (is_head turn.request)
    (closes_after last turn.request)) e

-- the replies are those of the HTTP interface
pub replies_plain : (c : Setting) (n : ℕ) (turns : List Turn) → AreOf c.instance turns → replies c.base n turns
    ≡ front_replies c n (map plain turns)
replies_plain c n [] of = refl
replies_plain c zero (turn ∷ turns) of =
    ap (λ xs. xs ++ replies c.base zero turns) (one_reply c true turn of.0)
    ∙ ap (λ xs. turn_text c true (plain turn) ++ xs) (replies_plain c zero turns of.1)
replies_plain c (suc n) (turn ∷ turns) of =
    ap (λ xs. xs ++ replies c.base n turns) (one_reply c false turn of.0)
    ∙ ap (λ xs. turn_text c false (plain turn) ++ xs) (replies_plain c n turns of.1)
