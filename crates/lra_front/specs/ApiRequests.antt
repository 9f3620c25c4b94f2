-- API requests: what a request asks of the coordinator.
use Rattle.std.specs.Prelude.{◌≡◌, ◌⊎◌, ℕ, List, [], true, codes, Some, None, MatchOption, unwrap_or, Result, Ok, Err}
use Rattle.std.specs.Result.{MatchResult}
use Rattle.serde_json.specs.Data.{Members}
use Rattle.lra_model.specs.declared.status.Ending.{Ending}
use Rattle.lra_model.specs.declared.status.Ending.TheVariants as ending
use Rattle.lra_ids.specs.Identifiers.{id_text, action_uri, recovery_uri, IsSpelling}
use Rattle.lra_wire.specs.Request.{Request}
use Rattle.lra_commands.specs.declared.refusal.Refusal.TheVariants as refusal
use Rattle.lra_commands.specs.declared.counter.Order.{Order}
use Rattle.lra_commands.specs.declared.counter.Order.TheVariants as order
use Rattle.lra_front.specs.declared.operation.Operation.{Operation}
use Rattle.lra_front.specs.declared.operation.Operation.TheVariants as operation
use Rattle.lra_front.specs.declared.api_error.ApiError.{ApiError}
use Rattle.lra_front.specs.declared.api_error.ApiError.TheVariants.{BadBody, Refused}
use Rattle.lra_front.specs.declared.api_request.ApiRequest.{ApiRequest}
use Rattle.lra_front.specs.declared.api_request.ApiRequest.TheVariants as api_request
use Rattle.lra_front.specs.Routes.{operation_of, id_in}
use Rattle.lra_front.specs.Bodies.{body_of, reads_body, text_under, number_under, ending_told, addresses_given}

-- the API error for a text that isn't the identifier of an action
abbrev pub no_action : ApiError
no_action = Refused refusal.NoSuchAction

-- the API error for a text that isn't the identifier of a member
abbrev pub no_member : ApiError
no_member = Refused refusal.NoSuchMember

-- The text spells a number, and the API request is one for that number; or it spells none, and that API error is
-- returned.
abbrev pub IsNamed : (ℕ → List ℕ) → List ℕ → ApiError → (ℕ → Result ApiRequest ApiError → Type 0)
    → Result ApiRequest ApiError → Type 0
IsNamed spelled text none Next w =
    ((n : ℕ) × IsSpelling spelled text n × Next n w) ⊎ (((n : ℕ) → ¬ (IsSpelling spelled text n)) × (w ≡ Err none))

-- the limit in a body: 0, which means none, where it has none
abbrev pub limit_in : Members → ℕ
limit_in ms = unwrap_or (number_under (codes "limit") ms) 0

-- the end that a body names; a body that fits the operation names one
abbrev pub ending_in : Members → Ending
ending_in ms = unwrap_or (ending_told ms) ending.Completed

-- the start of an action: at the top, or under the parent whose URI the body has
abbrev pub IsStart : ℕ → List ℕ → Members → Result ApiRequest ApiError → Type 0
IsStart i base ms w = MatchOption (text_under (codes "parent") ms)
    (w ≡ Ok (api_request.Start None (limit_in ms)))
    (λ uri. IsNamed (action_uri i base) uri no_action
    (λ parent v. v ≡ Ok (api_request.Start (Some parent) (limit_in ms))) w)

-- the API request that an operation makes of an action; a member leaves it by its recovery URI, which the body has
abbrev pub IsOfAction : ℕ → List ℕ → Members → Operation → ℕ → Result ApiRequest ApiError → Type 0
IsOfAction i base ms operation.Status action w = w ≡ Ok (api_request.Status action)
IsOfAction i base ms operation.Join action w = w ≡ Ok (api_request.Join action (addresses_given ms))
IsOfAction i base ms operation.Close action w = w ≡ Ok (api_request.Close action)
IsOfAction i base ms operation.Cancel action w = w ≡ Ok (api_request.Cancel action)
IsOfAction i base ms operation.Renew action w = w ≡ Ok (api_request.Renew action (limit_in ms))
IsOfAction i base ms operation.Remove action w =
    IsNamed (recovery_uri i base) (unwrap_or (text_under (codes "recovery") ms) []) no_member
    (λ m v. v ≡ Ok (api_request.Leave action m)) w
IsOfAction i base ms _ action w = ⊥

-- the API request that an operation makes of a member
abbrev pub IsOfMember : Members → Operation → ℕ → Result ApiRequest ApiError → Type 0
IsOfMember ms operation.MemberStatus m w = w ≡ Ok (api_request.MemberStatus m)
IsOfMember ms operation.Report m w = w ≡ Ok (api_request.Report m (ending_in ms))
IsOfMember ms _ m w = ⊥

-- The API request that an operation makes of a coordinator with that instance and base. The path's ID is checked before
-- the body's.
abbrev pub IsApiRequest : ℕ → List ℕ → List ℕ → Members → Operation → Result ApiRequest ApiError → Type 0
IsApiRequest i base id ms operation.Start w = IsStart i base ms w
IsApiRequest i base id ms operation.MemberStatus w = IsNamed (id_text i) id no_member
    (IsOfMember ms operation.MemberStatus) w
IsApiRequest i base id ms operation.Report w = IsNamed (id_text i) id no_member (IsOfMember ms operation.Report) w
IsApiRequest i base id ms r w = IsNamed (id_text i) id no_action (IsOfAction i base ms r) w

-- The API request of a request. The path is checked first, then the method, the body, and the identifiers.
abbrev pub Asks : ℕ → List ℕ → Request → Result ApiRequest ApiError → Type 0
Asks i base request w = MatchResult (operation_of request.method request.target)
    (λ r. MatchOption (body_of r request.body) (w ≡ Err BadBody)
    (λ ms. IsApiRequest i base (id_in request.target) ms r w))
    (λ d. w ≡ Err d)

-- Memory can be refused in reading a request: its path and its method are served, and its operation reads the body.
abbrev pub LacksMemory : Request → Type 0
LacksMemory request = (r : Operation) × (operation_of request.method request.target ≡ Ok r) × (reads_body r ≡ true)

-- the API request of a request, or that memory was refused in reading it
abbrev pub MayAsk : ℕ → List ℕ → Request → Result ApiRequest ApiError → Type 0
MayAsk i base request w = ((w ≡ Err (Refused refusal.Memory)) × LacksMemory request) ⊎ Asks i base request w

-- the order that is given for an API request
abbrev pub IsOrder : ApiRequest → Order → Type 0
IsOrder (api_request.Start parent limit) o = o ≡ order.Start parent limit
IsOrder (api_request.Join action uris) (order.Join a given) = (a ≡ action) × (given.now ≡ uris)
IsOrder (api_request.Join action uris) _ = ⊥
IsOrder (api_request.Leave action m) o = o ≡ order.Leave action m
IsOrder (api_request.Close action) o = o ≡ order.Close action
IsOrder (api_request.Cancel action) o = o ≡ order.Cancel action
IsOrder (api_request.Renew action limit) o = o ≡ order.Renew action limit
IsOrder (api_request.Status action) o = o ≡ order.Status action
IsOrder (api_request.Report m e) o = o ≡ order.Report m e
IsOrder (api_request.MemberStatus m) o = o ≡ order.MemberStatus m
