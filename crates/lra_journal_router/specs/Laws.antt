-- Consequences of which instance a request names.
use Rattle.std.specs.Prelude.{◌≡◌, ◌≢◌, ◌⊎◌, ◌<◌, ◌^◌, ℕ, List, codes, Some, Result, Ok, Err}
use Rattle.serde_json.specs.Data.{Members}
use Rattle.lra_ids.specs.Identifiers.{id_text, action_uri}
use Rattle.lra_ids.specs.Bearing.{instance_at_end}
use Rattle.lra_ids.specs.InstanceLaws.{IsBorne}
use Rattle.lra_wire.specs.Request.{Request}
use Rattle.lra_commands.specs.declared.refusal.Refusal.TheVariants as refusal
use Rattle.lra_front.specs.declared.operation.Operation.{Operation}
use Rattle.lra_front.specs.declared.operation.Operation.TheVariants as operation
use Rattle.lra_front.specs.declared.api_error.ApiError.{ApiError}
use Rattle.lra_front.specs.declared.api_error.ApiError.TheVariants.{Refused}
use Rattle.lra_front.specs.declared.api_request.ApiRequest.{ApiRequest}
use Rattle.lra_front.specs.Routes.{operation_of, id_in}
use Rattle.lra_front.specs.Bodies.{body_of, object_in, text_under}
use Rattle.lra_front.specs.ApiRequests.{MayAsk, LacksMemory, IsNamed, no_action, no_member}
use Rattle.lra_journal_router.specs.Naming.{instance_of}
use Rattle.lra_commands.specs.declared.command.Told.{Told}
use Rattle.lra_commands.specs.declared.counter.Order.{Order}
use Rattle.lra_commands.specs.declared.counter.CounterFault.{CounterFault}
use Rattle.lra_commands.specs.Counters.{Sight}
use Rattle.lra_journal_sets.specs.Counted.{name}
use Rattle.lra_journal_sets.specs.Runs.{Happens}
use Rattle.lra_journal_sets.specs.Runs.Event.{Turn as OneTurn}
use Rattle.lra_journal_router.specs.Serving.{Turn, names, IsUnknown, Does, Lacks, Serves}

-- the path of a request has the identifier of an instance, and isn't one where actions are started
pub record HasIdentifier (request : Request) (i : ℕ) : Type 0 where
  pub place : Operation
  pub served : operation_of request.method request.target ≡ Ok place
  pub inside : place ≢ operation.Start
  pub number : ℕ
  pub borne : IsBorne i number
  pub text : id_in request.target ≡ id_text i number

-- the body of a start has the URI of an action of an instance, at whatever base
pub record HasParent (request : Request) (i : ℕ) : Type 0 where
  pub served : operation_of request.method request.target ≡ Ok operation.Start
  pub members : Members
  pub read : object_in request.body ≡ Some members
  pub base : List ℕ
  pub number : ℕ
  pub borne : IsBorne i number
  pub text : text_under (codes "parent") members ≡ Some (action_uri i base number)

-- A request names the instance whose identifier stands in its path or is the parent in its body.
abbrev pub IdentifiersName : Type 0
IdentifiersName = (request : Request) (i : ℕ) → HasIdentifier request i ⊎ HasParent request i → instance_of request
    ≡ Some i

-- A coordinator that a request doesn't name denies the request, whatever its base: as one with an identifier that isn't
-- its own.
abbrev pub UnknownInstancesDeny : Type 0
UnknownInstancesDeny = (i j : ℕ) (base : List ℕ) (request : Request) (w : Result ApiRequest ApiError) → i < 2 ^ 60
    → instance_of request ≡ Some j → i ≢ j
    → MayAsk i base request w → (d : ApiError) × IsUnknown request d × (w ≡ Err d)

-- A member leaves by a recovery URI of another instance than that of the coordinator which is asked: the coordinator
-- refuses the URI as one that isn't its own, once the identifier of the path is found to be its own.
abbrev pub TwoAreRefused : Type 0
TwoAreRefused = (i : ℕ) (base : List ℕ) (request : Request) (members : Members) (uri : List ℕ)
    (w : Result ApiRequest ApiError)
    → i < 2 ^ 60
    → operation_of request.method request.target ≡ Ok operation.Remove → body_of operation.Remove request.body
    ≡ Some members
    → text_under (codes "recovery") members ≡ Some uri → instance_at_end uri ≢ Some i → MayAsk i base request w
    → ((w ≡ Err (Refused refusal.Memory)) × LacksMemory request) ⊎ IsNamed (id_text i) (id_in request.target) no_action
    (λ action v. v ≡ Err no_member) w

-- Answering one request is one turn of a run.
abbrev pub AnswersAreTurns : (Sight → ℕ → Order → Result Told CounterFault → Sight → Type 0) → Type 0
AnswersAreTurns gives = (before after : List Sight) (turn : Turn) → Serves gives before turn after
    → Happens name names (Does gives) Lacks before (OneTurn turn) after
