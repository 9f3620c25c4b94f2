-- Connections whose requests a handler answers, and streams that come in pieces to a counter.
use Rattle.std.specs.Prelude.{◌≡◌, ℕ, Bool, false, List, [], ◌∷◌, ◌++◌, map, Option, Some, None, Result}
use Rattle.std.specs.declared.alloc.AllocError.{AllocError}
use Rattle.lra_wire.specs.Request.{Request}
use Rattle.lra_commands.specs.declared.command.Told.{Told}
use Rattle.lra_commands.specs.declared.counter.Order.{Order}
use Rattle.lra_commands.specs.declared.counter.CounterFault.{CounterFault}
use Rattle.lra_commands.specs.Counters.{Sight}
use Rattle.lra_front.specs.declared.stream.StreamEnd.{StreamEnd}
use Rattle.lra_front.specs.Streams.{standing}
use Rattle.lra_front.specs.Transcripts.{Spells, Transcript}
use Rattle.lra_steps.specs.declared.handler.Answered.{Answered}
use Rattle.lra_steps.specs.Positions.{AnswersOrdered, IsCovered}
use Rattle.lra_steps.specs.History.{History, Turn, EndsAfter, plain}
use Rattle.lra_steps.specs.Steps.{Tells}

-- A session that answers by itself, as the HTTP interface does over it. The answer names its identifiers. Where the
-- answer has a position, that covers all that the session has seen by then.
pub record AnswersAlone {C : Type 0} (sight : C → Sight) (covers : C → ℕ → Bool)
    (gives : Sight → ℕ → Order → Result Told CounterFault → Sight → Type 0)
    (before : C) (moment : ℕ) (request : Request) (answered : Answered) (after : C) : Type 0 where
  pub instance : answered.instance ≡ (sight before).setting.instance
  pub ordered : AnswersOrdered gives (sight before) moment request answered (sight after)
  pub covered : IsCovered covers after answered

module _ {S K : Type 0} (responds : S → ℕ → Request → Answered → S → Type 0) (tells : K → ℕ → K → Type 0) where
  -- one turn after another: the clock returns its moment, and its request is answered at that moment
  abbrev pub Chain : S → K → List Turn → S → K → Type 0
  Chain v k [] w l = (w ≡ v) × (l ≡ k)
  Chain v k (turn ∷ turns) w l =
      (u : S) × (j : K) × tells k turn.moment j × responds v turn.moment turn.request turn.answered u
      × Chain u j turns w l

  -- a request is answered at a moment that the clock returns, and the answer is replied, unless memory for that is
  -- refused
  pub record Answers (request : Request) (answered : Answered) (v w : S) (k l : K) (old new : History) : Type 0 where
    pub moment : ℕ
    pub clocked : tells k moment l
    pub given : responds v moment request answered w
    pub reply : Result (Unit {0}) AllocError
    pub told : Tells reply old new (record { request = request; moment = moment; answered = answered })

  -- What serving bytes does: the requests that they spell are answered one after another, and the replies come in their
  -- order. Each names the instance that answered. The instance here is that of replies to faults of reading.
  pub record Serves (instance : ℕ) (base bytes old : List ℕ) (v : S) (k : K) (end : StreamEnd) (new : List ℕ) (w : S)
      (l : K) : Type 0 where
    pub turns : List Turn
    pub rest : List ℕ
    pub out : List ℕ
    pub spelled : Spells bytes (map plain turns) rest
    pub chain : Chain v k turns w l
    pub written : new ≡ old ++ out
    pub ends : EndsAfter false instance base turns rest out end

module _ {S K : Type 0} (responds : S → ℕ → Request → Answered → S → Type 0) (rests : S → S → Type 0)
    (tells : K → ℕ → K → Type 0) where
  -- turns one after another as in a chain, with rests between them: each item is a turn, or none where the handler
  -- rests
  abbrev pub Course : S → K → List (Option Turn) → S → K → Type 0
  Course v k [] w l = (w ≡ v) × (l ≡ k)
  Course v k (Some turn ∷ xs) w l =
      (u : S) × (j : K) × tells k turn.moment j × responds v turn.moment turn.request turn.answered u
      × Course u j xs w l
  Course v k (None ∷ xs) w l = (u : S) × rests v u × Course u k xs w l

-- the turns of a course, in order
abbrev pub turns_in : List (Option Turn) → List Turn
turns_in [] = []
turns_in (Some turn ∷ xs) = turn ∷ turns_in xs
turns_in (None ∷ xs) = turns_in xs

module _ {K : Type 0} (gives : Sight → ℕ → Order → Result Told CounterFault → Sight → Type 0)
    (tells : K → ℕ → K → Type 0) where
  -- serving these bytes does what a stream of them does (`AreTranscripts`), where its end and what was written are
  -- known
  abbrev pub ServesBytes : List ℕ → List ℕ → Sight → K → StreamEnd → List ℕ → Sight → K → Type 0
  ServesBytes bytes old v k end new w l = Transcript gives tells 999 bytes old (standing (Some bytes) v k (Some old))
      end (standing None w l (Some new))
