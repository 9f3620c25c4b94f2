-- What a connection has done so far, and what is true of it.
use Rattle.std.specs.Prelude.{◌≡◌, ◌⊎◌, ℕ, zero, suc, ◌-◌, ◌≤◌, Bool, true, false, ◌||◌, nat_le, List, [], ◌∷◌, ◌++◌}
use Rattle.std.specs.Prelude.{map, length, take, drop, Option, Some, None, is_some, IsTrue, ⊤, if◌then◌else◌}
use Rattle.std.specs.Option.{option_map_or}
use Rattle.lra_wire.specs.declared.fault.WireFault.{WireFault}
use Rattle.lra_wire.specs.Request.{Request}
use Rattle.lra_wire.specs.Coded.{IsRequestBy, RefusesFrontBy, RefusesRequestBy, most_of}
use Rattle.lra_front.specs.declared.stream.StreamEnd.{StreamEnd}
use Rattle.lra_front.specs.declared.stream.StreamEnd.TheVariants.{Done, Refused, WriteFault}
use Rattle.lra_front.specs.Replies.{reply_bytes}
use Rattle.lra_front.specs.Streams.{fault_answer, is_head, closes_after}
use Rattle.lra_front.specs.Transcripts.{Turn as FrontTurn, StaysOpen, StaysOpenBefore, ClosesLast, IsFront}
use Rattle.lra_steps.specs.declared.handler.Answered.{Answered}

-- a request, the moment at which it was answered, its answer, and the instance that answered
pub record Turn : Type 0 where
  pub request : Request
  pub moment : ℕ
  pub answered : Answered

-- the same turn, where there is only one coordinator
abbrev pub plain : Turn → FrontTurn
plain turn = record { request = turn.request; moment = turn.moment; answer = turn.answered.answer }

-- all that a connection has done
pub record History : Type 0 where
  -- the instance whose identifiers the reply to a fault of reading names, and the base of all URIs
  pub instance : ℕ
  pub base : List ℕ
  -- whether chunked bodies and the expectation `100-continue` are accepted
  pub chunked : Bool
  -- all bytes that were accepted, those of them that belong to no request yet, and whether no more come
  pub taken : List ℕ
  pub kept : List ℕ
  pub closed : Bool
  -- the requests that were answered, in order, with their moments and answers, and the request that stands to be
  -- answered
  pub turns : List Turn
  pub stands : Option Request
  -- how the connection has ended
  pub ended : Option StreamEnd
  -- all bytes that were sent, and those that may be sent
  pub sent : List ℕ
  pub out : List ℕ

-- the reply to a turn, which may be the last that is accepted: it names identifiers of the coordinator that answered
abbrev pub turn_reply : List ℕ → Bool → Turn → List ℕ
turn_reply base last turn = reply_bytes turn.answered.instance base turn.answered.answer (is_head turn.request)
    (closes_after last turn.request)

-- the replies to turns, one after another, of which so many are accepted and one more
abbrev pub replies : List ℕ → ℕ → List Turn → List ℕ
replies base n [] = []
replies base zero (turn ∷ turns) = turn_reply base true turn ++ replies base zero turns
replies base (suc n) (turn ∷ turns) = turn_reply base false turn ++ replies base n turns

-- the reply to a fault of reading, or nothing where there is none
abbrev pub fault_reply : ℕ → List ℕ → WireFault → List ℕ
fault_reply instance base fault = option_map_or (λ a. reply_bytes instance base a false true) (fault_answer fault) []

-- the bytes spell the requests of these turns, where chunked bodies are accepted or refused, and then the rest
abbrev pub SpellsBy : Bool → List ℕ → List FrontTurn → List ℕ → Type 0
SpellsBy chunked bytes [] rest = bytes ≡ rest
SpellsBy chunked bytes (turn ∷ turns) rest = (more : List ℕ) × IsRequestBy chunked bytes turn.request more
    × SpellsBy chunked more turns rest

-- The bytes are those that are kept. Where a request stands, they are that request and then those that are kept.
abbrev pub StandsAt : Bool → Option Request → List ℕ → List ℕ → Type 0
StandsAt chunked None bytes kept = bytes ≡ kept
StandsAt chunked (Some request) bytes kept = IsRequestBy chunked bytes request kept

-- The end stays whatever bytes follow: the stream is closed after the last request, or the kept bytes can't become a
-- request, or a reply was lost.
abbrev pub IsLasting : Bool → StreamEnd → List Turn → List ℕ → Type 0
IsLasting chunked Done turns kept = ClosesLast 999 (map plain turns)
IsLasting chunked (Refused fault) turns kept = RefusesFrontBy chunked kept fault
IsLasting chunked WriteFault turns kept = ⊤

-- The stream stays open after each request so far. Once it has ended, no request stands, and that end stays whatever
-- follows, or no more bytes come.
abbrev pub IsOpenSo : Option StreamEnd → History → Type 0
IsOpenSo None h = StaysOpen 999 (map plain h.turns)
IsOpenSo (Some end) h = (h.stands ≡ None) × (IsLasting h.chunked end h.turns h.kept ⊎ IsTrue h.closed)

-- How a stream has ended after these turns, where the rest was still to be read, and what was replied by then: the
-- replies to the requests that were answered, in order, and to a fault of reading. Where the last reply was lost, that
-- is a proper prefix of them.
abbrev pub EndsAfter : Bool → ℕ → List ℕ → List Turn → List ℕ → List ℕ → StreamEnd → Type 0
EndsAfter chunked instance base turns rest out Done = (out ≡ replies base 999 turns)
    × (((rest ≡ []) × StaysOpen 999 (map plain turns)) ⊎ ClosesLast 999 (map plain turns))
EndsAfter chunked instance base turns rest out (Refused fault) =
    (out ≡ replies base 999 turns ++ fault_reply instance base fault) × RefusesRequestBy chunked rest fault
    × StaysOpen 999 (map plain turns)
EndsAfter chunked instance base turns rest out WriteFault = IsFront out (replies base 999 turns)
    × StaysOpenBefore 999 (map plain turns)

-- The bytes that were sent and those that may be are the replies to the requests that were answered, in order, and at
-- the end what `EndsAfter` says.
abbrev pub Replies : Option StreamEnd → History → Type 0
Replies None h = h.sent ++ h.out ≡ replies h.base 999 h.turns
Replies (Some end) h = EndsAfter h.chunked h.instance h.base h.turns h.kept (h.sent ++ h.out) end

-- What is true of every connection, after any calls.
pub record IsServed (h : History) : Type 0 where
  -- the accepted bytes are the requests that were answered, in order, then the one that stands, and then the kept bytes
  pub behind : List ℕ
  pub spelled : SpellsBy h.chunked h.taken (map plain h.turns) behind
  pub standing : StandsAt h.chunked h.stands behind h.kept
  pub open_so : IsOpenSo h.ended h
  pub replied : Replies h.ended h
  pub bound : length h.kept ≤ most_of h.chunked

-- a connection to which nothing has come
abbrev pub begun : ℕ → List ℕ → History
begun instance base = record {
  instance = instance;
  base = base;
  chunked = false;
  taken = [];
  kept = [];
  closed = false;
  turns = [];
  stands = None;
  ended = None;
  sent = [];
  out = [];
}

-- the same, where chunked bodies are accepted or refused
abbrev pub begun_by : Bool → ℕ → List ℕ → History
begun_by chunked instance base = record (begun instance base) { chunked = chunked }

-- how many more bytes are accepted: none once it has ended, and else no more are kept than the largest request has
-- (this project's choice)
abbrev pub room_of : History → ℕ
room_of h = if h.closed || is_some h.ended then 0 else most_of h.chunked - length h.kept

-- these bytes were accepted
abbrev pub took : History → List ℕ → History
took h more = record h { taken = h.taken ++ more; kept = h.kept ++ more }

-- no more bytes come
abbrev pub finished : History → History
finished h = record h { closed = true }

-- a request was read, and stands to be answered
abbrev pub ordered : History → Request → List ℕ → History
ordered h request rest = record h { kept = rest; stands = Some request }

-- the request that stands is the last that is accepted
abbrev pub is_last : History → Bool
is_last h = nat_le 999 (length h.turns)

-- the request was answered, and the connection ends if the stream is closed after that request
abbrev pub answered : History → Turn → History
answered h turn = record h {
  turns = h.turns ++ turn ∷ [];
  stands = None;
  ended = if closes_after (is_last h) turn.request then Some Done else None;
  out = h.out ++ turn_reply h.base (is_last h) turn;
}

-- the request was answered, and memory for its reply was refused: the connection ends without it
abbrev pub lost : History → Turn → History
lost h turn = record h { turns = h.turns ++ turn ∷ []; stands = None; ended = Some WriteFault }

-- the reply at the end: only a fault of reading has one
abbrev pub end_reply : ℕ → List ℕ → StreamEnd → List ℕ
end_reply instance base Done = []
end_reply instance base (Refused fault) = fault_reply instance base fault
end_reply instance base WriteFault = []

-- the connection ends with no further request
abbrev pub ended_by : History → StreamEnd → History
ended_by h end = record h { ended = Some end; out = h.out ++ end_reply h.instance h.base end }

-- so many bytes of the output were sent
abbrev pub went : History → ℕ → History
went h count = record h { sent = h.sent ++ take count h.out; out = drop count h.out }
