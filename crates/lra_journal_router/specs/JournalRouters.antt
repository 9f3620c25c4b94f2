-- Handler for a journal set whose members join and leave between its turns.
use Rattle.std.specs.Prelude.{◌≡◌, ◌≢◌, ◌⊎◌, ℕ, Bool, List, [], ◌∷◌, Option, IsSome, unwrap_or, Result}
use Rattle.std.specs.List.{AllByRecursion}
use Rattle.lra_wire.specs.Request.{Request}
use Rattle.lra_commands.specs.declared.command.Told.{Told}
use Rattle.lra_commands.specs.declared.counter.Order.{Order}
use Rattle.lra_commands.specs.declared.counter.CounterFault.{CounterFault}
use Rattle.lra_commands.specs.declared.refusal.Refusal.TheVariants as refusal
use Rattle.lra_commands.specs.Counters.{Sight}
use Rattle.lra_front.specs.declared.api_error.ApiError.TheVariants as api_error
use Rattle.lra_front.specs.declared.answer.Answer.TheVariants as answer
use Rattle.lra_steps.specs.declared.handler.Answered.{Answered}
use Rattle.lra_steps.specs.History.{Turn as ConnectionTurn}
use Rattle.lra_steps.specs.Pieces.{Chain, Course, turns_in}
use Rattle.lra_journal_sets.specs.Counted.{name}
use Rattle.lra_journal_sets.specs.JournalSets.{newest, Joins, Leaves}
use Rattle.lra_journal_sets.specs.Runs.{Event, Run}
use Rattle.lra_journal_sets.specs.Runs.Event.{Turn as OneTurn, Join, Leave}
use Rattle.lra_journal_router.specs.Naming.{instance_of}
use Rattle.lra_journal_router.specs.Serving.{Turn, names, Does, Lacks, ServesOrdered, turn_of}
use Rattle.lra_journal_router.specs.Waiting.{IsPutOff, IsRefused, IsSure}

-- the URIs of each member begin so
abbrev pub HaveBase : List ℕ → List Sight → Type 0
HaveBase base ss = AllByRecursion (λ s. s.setting.base ≡ base) ss

-- what the URIs of the oldest member begin with
abbrev pub base_of : List Sight → List ℕ
base_of [] = []
base_of (s ∷ ss) = s.setting.base

-- members join and leave, one after another, and none has a turn
abbrev pub Moves : List Sight → List (Event Sight Turn) → List Sight → Type 0
Moves ss [] ts = ts ≡ ss
Moves ss (OneTurn turn ∷ xs) ts = ⊥
Moves ss (Join s ∷ xs) ts = (us : List Sight) × Joins name ss s us × Moves us xs ts
Moves ss (Leave s ∷ xs) ts = (us : List Sight) × Leaves name ss s us × Moves us xs ts

-- there are such joins and leaves
abbrev pub Moved : List Sight → List Sight → Type 0
Moved before after = (xs : List (Event Sight Turn)) × Moves before xs after

-- all URIs still begin as they did
abbrev pub KeepsBase : List Sight → List Sight → Type 0
KeepsBase before after = (base : List ℕ) → HaveBase base before → HaveBase base after

module _ {C : Type 0} (tells : Option ℕ → Bool → Type 0) (sight : C → Sight) (covers : C → ℕ → Bool)
    (gives : Sight → ℕ → Order → Result Told CounterFault → Sight → Type 0) where
  -- a request is answered as in a journal set that stays as it is, if the counter is known; or it is refused, and
  -- reaches no member
  abbrev pub Outcome : List Sight → ℕ → Request → Answered → List Sight → Type 0
  Outcome before moment request answered after =
      (IsSure tells before request × ServesOrdered sight covers gives before (record {
        request = request;
        moment =
            moment;
        answered = answered;
      }) after)
      ⊎ (IsPutOff tells before request answered × (after ≡ before))

  -- What a request at a moment does: members join and leave, and then the member that it names answers, as in a journal
  -- set that stays as it is. Or the request is refused, and reaches no member, if the membership reports that the
  -- journal set may still lack that member.
  pub record Responds (before : List Sight) (moment : ℕ) (request : Request) (answered : Answered) (after : List
      Sight) : Type 0 where
    pub met : List Sight
    pub moved : Moved before met
    pub serves : Outcome met moment request answered after
    -- the answer names the instance that the request names, unless memory was refused
    pub whose : answered.answer ≢ answer.Denied (api_error.Refused refusal.Memory) → answered.instance ≡ unwrap_or
        (instance_of request) (newest name met)
    -- a position is one in the journal that the request names
    pub journal : IsSome answered.position → answered.instance ≡ unwrap_or (instance_of request) (newest name met)
    pub base : base_of after ≡ base_of before

-- what a rest does: members join and leave
pub record Rests (before after : List Sight) : Type 0 where
  pub moved : Moved before after
  pub base : base_of after ≡ base_of before

-- the turns among the events, in order
abbrev pub turns_of : List (Event Sight Turn) → List Turn
turns_of [] = []
turns_of (OneTurn turn ∷ xs) = turn ∷ turns_of xs
turns_of (Join s ∷ xs) = turns_of xs
turns_of (Leave s ∷ xs) = turns_of xs

-- turns of a journal set are those of a connection, in order, but for some that are refused
abbrev pub AreTurns : List Turn → List ConnectionTurn → Type 0
AreTurns es [] = es ≡ []
AreTurns es (turn ∷ turns) = ((fs : List Turn) × (es ≡ turn_of turn ∷ fs) × AreTurns fs turns)
    ⊎ (IsRefused turn.answered.answer × AreTurns es turns)

module _ {K C : Type 0} (lacks : Option ℕ → Bool → Type 0) (sight : C → Sight) (covers : C → ℕ → Bool)
    (gives : Sight → ℕ → Order → Result Told CounterFault → Sight → Type 0) (tells : K → ℕ → K → Type 0) where
  -- Requests that a journal router answers one after another are a run of its journal set: its turns are these
  -- requests, in order, but for those that are refused while a member may be lacked. Members join and leave between
  -- them.
  abbrev pub JournalRoutersRun : Type 0
  JournalRoutersRun = (ss ts : List Sight) (k l : K) (turns : List ConnectionTurn) → Chain (Responds lacks sight covers
      gives) tells ss k turns ts l
      → (xs : List (Event Sight Turn)) × Run name names (Does gives) Lacks ss xs ts × AreTurns (turns_of xs) turns

  -- The same with rests between the requests: a rest only adds joins and leaves.
  abbrev pub JournalRoutersIdle : Type 0
  JournalRoutersIdle = (ss ts : List Sight) (k l : K) (course : List (Option ConnectionTurn)) → Course (Responds lacks
      sight covers gives) Rests tells ss k course ts l
      → (xs : List (Event Sight Turn)) × Run name names (Does gives) Lacks ss xs ts × AreTurns (turns_of xs) (turns_in
      course)
