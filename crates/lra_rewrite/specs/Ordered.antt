-- What starts and joins ask for under the settings of a service.
use Rattle.std.specs.Prelude.{◌≡◌, ℕ, ◌<◌, Bool, true, false, if◌then◌else◌, List, codes, is_none, Some, None}
use Rattle.std.specs.Prelude.{MatchOption, Result, Ok}
use Rattle.serde_json.specs.Data.{Members}
use Rattle.serde_json.specs.Find.{get_member}
use Rattle.lra_ids.specs.Identifiers.{action_uri, id_text}
use Rattle.lra_wire.specs.Request.{Request}
use Rattle.lra_front.specs.declared.operation.Operation.TheVariants as operation
use Rattle.lra_front.specs.declared.api_error.ApiError.{ApiError}
use Rattle.lra_front.specs.declared.api_request.ApiRequest.{ApiRequest}
use Rattle.lra_front.specs.declared.api_request.ApiRequest.TheVariants as api_request
use Rattle.lra_front.specs.Routes.{operation_of, id_in}
use Rattle.lra_front.specs.Bodies.{body_of, text_under, addresses_given}
use Rattle.lra_front.specs.ApiRequests.{Asks, IsNamed, limit_in, no_action}
use Rattle.lra_rewrite.specs.Https.{addresses_meant}
use Rattle.lra_rewrite.specs.Settling.{MeansSettled, may_differ}

-- the limit of an action that a start of these members asks for under a default limit: the one that they give, or else
-- the default
abbrev pub limit_under : ℕ → Members → ℕ
limit_under limit ms = if is_none (get_member (codes "limit") ms) then limit else limit_in ms

-- an action with that limit is asked for, at the top or under the parent of which the members have the URI
abbrev pub AsksStart : ℕ → List ℕ → Members → ℕ → Result ApiRequest ApiError → Type 0
AsksStart i base ms limit w = MatchOption (text_under (codes "parent") ms)
    (w ≡ Ok (api_request.Start None limit))
    (λ uri. IsNamed (action_uri i base) uri no_action (λ parent v. v ≡ Ok (api_request.Start (Some parent) limit)) w)

-- if the request that a start means can be read, it asks for that action, whichever coordinator is asked
abbrev pub StartsAskSo : Type 0
StartsAskSo = (limit : ℕ) (is_proxied : Bool) (i : ℕ) (base : List ℕ) (request meant : Request) (ms : Members)
    (w : Result ApiRequest ApiError)
    → 0 < limit → operation_of request.method request.target ≡ Ok operation.Start
    → body_of operation.Start request.body ≡ Some ms → MeansSettled limit is_proxied request meant
    → Asks i base meant w → AsksStart i base ms (limit_under limit ms) w

-- a join of the action that a target names is asked for, with the addresses that these members mean
abbrev pub AsksJoin : ℕ → List ℕ → Members → Result ApiRequest ApiError → Type 0
AsksJoin i target ms w = IsNamed (id_text i) (id_in target) no_action
    (λ action v. v ≡ Ok (api_request.Join action (addresses_meant (addresses_given ms)))) w

-- if the request that a join means can be read, and members are called by a proxy, it asks for that join
abbrev pub JoinsAskSo : Type 0
JoinsAskSo = (limit i : ℕ) (base : List ℕ) (request meant : Request) (ms : Members) (w : Result ApiRequest ApiError)
    → operation_of request.method request.target ≡ Ok operation.Join
    → body_of operation.Join request.body ≡ Some ms → MeansSettled limit true request meant → Asks i base meant w
    → AsksJoin i request.target ms w

-- a request that is neither a start nor a join means itself; so does a start without a default limit, and a join
-- without a proxy
abbrev pub OthersMeanThemselves : Type 0
OthersMeanThemselves = (limit : ℕ) (is_proxied : Bool) (request meant : Request)
    → may_differ limit is_proxied request ≡ false → MeansSettled limit is_proxied request meant → meant ≡ request
