-- What one request does at a journal set: which journal answers, and how.
use Rattle.std.specs.Prelude.{◌≡◌, ◌⊎◌, ℕ, Bool, List, None, MatchOption, IfSome, IsTrue, unwrap_or, Result}
use Rattle.std.specs.Result.{MatchResult}
use Rattle.lra_commands.specs.declared.command.Told.{Told}
use Rattle.lra_commands.specs.declared.counter.Order.{Order}
use Rattle.lra_commands.specs.declared.counter.CounterFault.{CounterFault}
use Rattle.lra_commands.specs.declared.refusal.Refusal.TheVariants as refusal
use Rattle.lra_commands.specs.Counters.{Sight}
use Rattle.lra_wire.specs.Request.{Request}
use Rattle.lra_front.specs.declared.operation.Operation.{Operation}
use Rattle.lra_front.specs.declared.operation.Operation.TheVariants as operation
use Rattle.lra_front.specs.declared.api_error.ApiError.{ApiError}
use Rattle.lra_front.specs.declared.api_error.ApiError.TheVariants.{BadBody, Refused}
use Rattle.lra_front.specs.declared.answer.Answer.{Answer}
use Rattle.lra_front.specs.declared.answer.Answer.TheVariants.{Denied}
use Rattle.lra_front.specs.Routes.{operation_of}
use Rattle.lra_front.specs.Bodies.{body_of}
use Rattle.lra_front.specs.ApiRequests.{LacksMemory, no_action, no_member}
use Rattle.lra_front.specs.Serving.{Responds}
use Rattle.lra_steps.specs.History.{Turn as ConnectionTurn}
use Rattle.lra_steps.specs.Positions.{AnswersOrdered}
use Rattle.lra_journal_sets.specs.Counted.{name}
use Rattle.lra_journal_sets.specs.JournalSets.{newest, MovesAt}
use Rattle.lra_journal_router.specs.Naming.{instance_of}

-- a request at a moment, and its answer
pub record Turn : Type 0 where
  pub moment : ℕ
  pub request : Request
  pub answer : Answer

-- the instance that a turn names, given the newest one: an outermost start is for the newest
abbrev pub names : ℕ → Turn → ℕ
names newest turn = unwrap_or (instance_of turn.request) newest

-- how an operation denies an identifier that isn't its journal's
abbrev pub unknown_at : Operation → ApiError
unknown_at operation.MemberStatus = no_member
unknown_at operation.Report = no_member
unknown_at _ = no_action

-- How a request is denied whose identifier is of no journal in the journal set: as each counter denies an identifier
-- that isn't its own. A wrong body is reported first, and memory may be refused in reading it.
abbrev pub IsUnknown : Request → ApiError → Type 0
IsUnknown request d = ((d ≡ Refused refusal.Memory) × LacksMemory request)
    ⊎ MatchResult (operation_of request.method request.target)
    (λ r. MatchOption (body_of r request.body) (d ≡ BadBody) (λ members. d ≡ unknown_at r))
    (λ e. d ≡ e)

-- the journal that the turn names isn't in the journal set, and the turn is denied
abbrev pub Lacks : Turn → Type 0
Lacks turn = (d : ApiError) × IsUnknown turn.request d × (turn.answer ≡ Denied d)

module _ (gives : Sight → ℕ → Order → Result Told CounterFault → Sight → Type 0) where
  -- what a turn does at its counter: what the front does there
  abbrev pub Does : Sight → Turn → Sight → Type 0
  Does before turn after = Responds gives before turn.moment turn.request after turn.answer

  -- what a turn does in a journal set
  abbrev pub Serves : List Sight → Turn → List Sight → Type 0
  Serves before turn after = MovesAt name (names (newest name before) turn) before (λ s t. Does s turn t) (Lacks turn)
      after

-- a turn of a connection, without its answer's instance and position
abbrev pub turn_of : ConnectionTurn → Turn
turn_of turn = record { moment = turn.moment; request = turn.request; answer = turn.answered.answer }

module _ {C : Type 0} (sight : C → Sight) (covers : C → ℕ → Bool) (gives : Sight → ℕ → Order → Result Told
    CounterFault → Sight → Type 0) where
  -- a session of which this is known covers so many bytes of its journal
  abbrev pub IsCoveredAt : Sight → ℕ → Type 0
  IsCoveredAt known n = (session : C) × (sight session ≡ known) × IsTrue (covers session n)

  -- what a turn does at its member: what the front does there; if an order was given, the answer has a position, which
  -- covers all that the member has seen by then
  abbrev pub DoesOrdered : Sight → ConnectionTurn → Sight → Type 0
  DoesOrdered before turn after =
      AnswersOrdered gives before turn.moment turn.request turn.answered after × IfSome turn.answered.position
      (IsCoveredAt after)

  -- what a turn does in a journal set; if the journal that it names isn't there, the answer has no position
  abbrev pub ServesOrdered : List Sight → ConnectionTurn → List Sight → Type 0
  ServesOrdered before turn after = MovesAt name (names (newest name before) (turn_of turn)) before
      (λ s t. DoesOrdered s turn t) (Lacks (turn_of turn) × (turn.answered.position ≡ None)) after
