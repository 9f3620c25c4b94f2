-- Transcripts: a whole stream as lists of the requests that its bytes spell, the moments, the answers, and the bytes of
-- the replies.
use Rattle.std.specs.Prelude.{◌≡◌, ◌⊎◌, ℕ, zero, suc, ◌<◌, Bool, true, false, List, [], ◌∷◌, ◌++◌, length, Some, Result}
use Rattle.std.specs.Prelude.{Ok, Err, ⊤}
use mathlib.Core.List.{IsPrefix}
use Rattle.lra_model.specs.History.{History}
use Rattle.std.specs.Option.{option_map_or}
use Rattle.lra_wire.specs.declared.fault.WireFault.{WireFault}
use Rattle.lra_wire.specs.Request.{Request, IsRequest, RefusesRequest}
use Rattle.lra_commands.specs.declared.command.Told.{Told}
use Rattle.lra_commands.specs.declared.counter.Order.{Order}
use Rattle.lra_commands.specs.declared.counter.CounterFault.{CounterFault}
use Rattle.lra_commands.specs.Counters.{Setting, Sight, terms_of, call_of, entries_under, added_by}
use Rattle.lra_front.specs.declared.answer.Answer.{Answer}
use Rattle.lra_front.specs.declared.api_error.ApiError.{ApiError}
use Rattle.lra_front.specs.declared.api_request.ApiRequest.{ApiRequest}
use Rattle.lra_front.specs.declared.stream.StreamEnd.{StreamEnd}
use Rattle.lra_front.specs.declared.stream.StreamEnd.TheVariants.{Done, Refused, WriteFault}
use Rattle.lra_front.specs.Replies.{reply_bytes}
use Rattle.lra_front.specs.Serving.{Does, Responds}
use Rattle.lra_front.specs.Streams.{Standing, fault_answer, is_head, closes_after, ServesUpTo}

-- a request, the moment at which it was answered, and its answer
pub record Turn : Type 0 where
  pub request : Request
  pub moment : ℕ
  pub answer : Answer

-- the bytes spell the requests of these turns, and then the rest
abbrev pub Spells : List ℕ → List Turn → List ℕ → Type 0
Spells bytes [] rest = bytes ≡ rest
Spells bytes (turn ∷ turns) rest = (more : List ℕ) × IsRequest bytes turn.request more × Spells more turns rest

-- the reply to a request, which may be the last that is accepted
abbrev pub turn_text : Setting → Bool → Turn → List ℕ
turn_text c last turn = reply_bytes c.instance c.base turn.answer (is_head turn.request)
    (closes_after last turn.request)

-- the replies to requests, one after another, of which so many are accepted and one more
abbrev pub replies : Setting → ℕ → List Turn → List ℕ
replies c n [] = []
replies c zero (turn ∷ turns) = turn_text c true turn ++ replies c zero turns
replies c (suc n) (turn ∷ turns) = turn_text c false turn ++ replies c n turns

-- the reply to a fault of reading
abbrev pub fault_bytes : Setting → WireFault → List ℕ
fault_bytes c fault = option_map_or (λ a. reply_bytes c.instance c.base a false true) (fault_answer fault) []

-- the stream stays open after each request
abbrev pub StaysOpen : ℕ → List Turn → Type 0
StaysOpen n [] = ⊤
StaysOpen zero (turn ∷ turns) = ⊥
StaysOpen (suc n) (turn ∷ turns) = (closes_after false turn.request ≡ false) × StaysOpen n turns

-- the stream stays open after each request but the last
abbrev pub StaysOpenBefore : ℕ → List Turn → Type 0
StaysOpenBefore n [] = ⊥
StaysOpenBefore n (turn ∷ []) = ⊤
StaysOpenBefore zero (turn ∷ next ∷ turns) = ⊥
StaysOpenBefore (suc n) (turn ∷ next ∷ turns) = (closes_after false turn.request ≡ false)
    × StaysOpenBefore n (next ∷ turns)

-- the stream is closed after the last request, and not before
abbrev pub ClosesLast : ℕ → List Turn → Type 0
ClosesLast n [] = ⊥
ClosesLast zero (turn ∷ []) = ⊤
ClosesLast (suc n) (turn ∷ []) = closes_after false turn.request ≡ true
ClosesLast zero (turn ∷ next ∷ turns) = ⊥
ClosesLast (suc n) (turn ∷ next ∷ turns) = (closes_after false turn.request ≡ false) × ClosesLast n (next ∷ turns)

-- a proper prefix of a text
abbrev pub IsFront : List ℕ → List ℕ → Type 0
IsFront front text = (more : List ℕ) × (text ≡ front ++ more) × (0 < length more)

-- how a stream ended after these turns, where the rest was still to be read, and what was written by then
abbrev pub EndsAfter : Setting → ℕ → List Turn → List ℕ → List ℕ → StreamEnd → Type 0
EndsAfter c n turns rest out Done = (out ≡ replies c n turns) × (((rest ≡ []) × StaysOpen n turns) ⊎ ClosesLast n turns)
EndsAfter c n turns rest out (Refused fault) = (out ≡ replies c n turns ++ fault_bytes c fault)
    × RefusesRequest rest fault × StaysOpen n turns
EndsAfter c n turns rest out WriteFault =
    (IsFront out (replies c n turns) × StaysOpenBefore n turns)
    ⊎ ((fault : WireFault) × IsFront out (replies c n turns ++ fault_bytes c fault) × RefusesRequest rest fault
    × StaysOpen n turns)

module _ {K : Type 0} (gives : Sight → ℕ → Order → Result Told CounterFault → Sight → Type 0)
    (tells : K → ℕ → K → Type 0) where
  -- one turn after another: the clock returns its moment, and its request does what it does at the counter
  abbrev pub Chain : Sight → K → List Turn → Sight → K → Type 0
  Chain v k [] w l = (w ≡ v) × (l ≡ k)
  Chain v k (turn ∷ turns) w l =
      (u : Sight) × (j : K) × tells k turn.moment j × Responds gives v turn.moment turn.request u turn.answer
      × Chain u j turns w l

  -- a stream of these bytes, as lists
  pub record Transcript (n : ℕ) (bytes old : List ℕ) (s : Standing K) (end : StreamEnd) (t : Standing K) : Type 0 where
    pub turns : List Turn
    pub rest : List ℕ
    pub out : List ℕ
    pub spelled : Spells bytes turns rest
    pub chain : Chain s.sight s.clock turns t.sight t.clock
    pub written : t.out ≡ Some (old ++ out)
    pub ends : EndsAfter s.sight.setting n turns rest out end

  -- What a stream does is its transcript, where its bytes and those that were written are known.
  abbrev pub AreTranscripts : Type 0
  AreTranscripts = (n : ℕ) (bytes old : List ℕ) (s t : Standing K) (end : StreamEnd) → s.bytes ≡ Some bytes → s.out
      ≡ Some old
      → ServesUpTo gives tells n s end t → Transcript n bytes old s end t

  -- what a request adds to the entries under its clerk's number: what its one order adds, at a history that begins with
  -- all that was seen; nothing where it is an API error
  abbrev pub IsAdded : (v : Sight) (moment : ℕ) (w : Result ApiRequest ApiError) (u : Sight) (a : Answer)
      → Does gives v moment w u a → History → Type 0
  IsAdded v moment (Ok api_request) u a given added = (met : History) × IsPrefix v.seen met
      × (added ≡ added_by (terms_of v.setting) met (call_of v.number moment given.order) given.reply)
  IsAdded v moment (Err api_error) u a given added = added ≡ []

  -- what turns add to those entries, one after another
  abbrev pub AreAdded : (v : Sight) (k : K) (turns : List Turn) (w : Sight) (l : K) → Chain v k turns w l → History
      → Type 0
  AreAdded v k [] w l chain added = added ≡ []
  AreAdded v k (turn ∷ turns) w l chain added =
      (first : History) × (more : History) × IsAdded v turn.moment chain.3.0 chain.0 turn.answer chain.3.2 first
      × AreAdded chain.0 chain.1 turns w l chain.4 more × (added ≡ first ++ more)

  -- The entries under the clerk's number are those from before, and then what its orders add, in their order, each
  -- once.
  abbrev pub AreWrittenInTurn : Type 0
  AreWrittenInTurn = (v w : Sight) (k l : K) (turns : List Turn) (chain : Chain v k turns w l) → (added : History)
      × AreAdded v k turns w l chain added
      × (entries_under v.number w.seen ≡ entries_under v.number v.seen ++ added)
