-- What a counter returns for an API request can be answered.
use Rattle.std.proofs.Common.{◌≡◌, ℕ, List, inl, inr, Option, Some, None, Result, Ok, Err, sym, ap, subst}
use Rattle.std.specs.Prelude.{codes, unwrap_or, MatchOption, ⊤}
use Rattle.std.specs.Result.{result_ok, MatchResult}
use Rattle.serde_json.specs.Data.{Members}
use denote.Ref.{Bor}
use Rattle.lra_model.specs.declared.status.Ending.{Ending}
use Rattle.lra_model.specs.Addresses.{Addresses}
use Rattle.lra_wire.specs.Request.{Request}
use Rattle.lra_ids.specs.Identifiers.{id_text, action_uri, recovery_uri}
use Rattle.lra_commands.specs.declared.command.Told.{Told}
use Rattle.lra_commands.specs.declared.command.Told.TheVariants as told
use Rattle.lra_commands.specs.declared.counter.Order.{Order}
use Rattle.lra_commands.specs.declared.counter.Order.TheVariants as order
use Rattle.lra_commands.specs.declared.counter.CounterFault.{CounterFault}
use Rattle.lra_commands.specs.Counters.{Sight, KeepsHistory, CanTell, IsIdentifiable}
use Rattle.lra_commands.proofs.Tells.{counters_tell}
use Rattle.lra_front.specs.declared.operation.Operation.{Operation}
use Rattle.lra_front.specs.declared.operation.Operation.TheVariants as operation
use Rattle.lra_front.specs.declared.api_error.ApiError.{ApiError}
use Rattle.lra_front.specs.declared.api_error.ApiError.TheVariants.{BadBody}
use Rattle.lra_front.specs.declared.api_request.ApiRequest.{ApiRequest}
use Rattle.lra_front.specs.declared.api_request.ApiRequest.TheVariants as api_request
use Rattle.lra_front.specs.Routes.{operation_of, id_in}
use Rattle.lra_front.specs.Bodies.{body_of, text_under}
use Rattle.lra_front.specs.ApiRequests.{
  no_action,
  no_member,
  limit_in,
  IsNamed,
  IsOfAction,
  IsOfMember,
  IsApiRequest,
  MayAsk,
}
use Rattle.lra_front.specs.ApiRequests.{IsOrder}
use Rattle.lra_front.specs.inner.Tellable.{IsTellable, IsAnswerable}

-- ---- the action of which the status is asked

-- its number is one that an identifier can have
abbrev HasNumber : ApiRequest → Type 0
HasNumber (api_request.Status action) = IsIdentifiable action
HasNumber _ = ⊤

-- two results are one
abbrev Same : Result ApiRequest ApiError → Result ApiRequest ApiError → Type 0
Same x y = x ≡ y

same_api_request : (v w : ApiRequest) → Same (Ok w) (Ok v) → w ≡ v
same_api_request v w e = ap (λ r. unwrap_or (result_ok r) v) e

numbered : (v w : ApiRequest) → Same (Ok w) (Ok v) → HasNumber v → HasNumber w
numbered v w e h = let P : ApiRequest → Type 0 = λ x. HasNumber x in subst P (sym (same_api_request v w e)) h

by_name : (spelled : ℕ → List ℕ) (text : List ℕ) (none : ApiError) (Next : ℕ → Result ApiRequest ApiError → Type 0)
    (w : ApiRequest)
    → ((n : ℕ) → IsIdentifiable n → Next n (Ok w) → HasNumber w) → IsNamed spelled text none Next (Ok w) → HasNumber w
by_name spelled text none Next w next (inl (n, is, h)) = next n (is.0, is.1) h
by_name spelled text none Next w next (inr (other, e)) = absurd cc

by_start : (i : ℕ) (base : List ℕ) (ms : Members) (o : Option (List ℕ)) (limit : ℕ) (w : ApiRequest)
    → MatchOption o (Same (Ok w) (Ok (api_request.Start None limit))) (λ uri. IsNamed (action_uri i base) uri no_action
    (λ parent v. v ≡ Ok (api_request.Start (Some parent) limit)) (Ok w)) → HasNumber w
by_start i base ms None limit w h = numbered (api_request.Start None limit) w h tt
by_start i base ms (Some uri) limit w h = by_name (action_uri i base) uri no_action
    (λ parent v. Same v (Ok (api_request.Start (Some parent) limit))) w
    (λ n k e. numbered (api_request.Start (Some n) limit) w e tt)
    h

by_operation : (i : ℕ) (base id : List ℕ) (ms : Members) (r : Operation) (w : ApiRequest)
    → IsApiRequest i base id ms r (Ok w)
    → HasNumber w
by_operation i base id ms operation.Start w h = by_start i base ms (text_under (codes "parent") ms) (limit_in ms) w h
by_operation i base id ms operation.Status w h = by_name (id_text i) id no_action
    (IsOfAction i base ms operation.Status) w (λ n k e. numbered (api_request.Status n) w e k) h
by_operation i base id ms operation.Join w h = by_name (id_text i) id no_action (IsOfAction i base ms operation.Join) w
    (λ n k e. numbered _ w e tt) h
by_operation i base id ms operation.Close w h = by_name (id_text i) id no_action (IsOfAction i base ms operation.Close)
    w (λ n k e. numbered _ w e tt) h
by_operation i base id ms operation.Cancel w h = by_name (id_text i) id no_action
    (IsOfAction i base ms operation.Cancel) w (λ n k e. numbered _ w e tt) h
by_operation i base id ms operation.Renew w h = by_name (id_text i) id no_action (IsOfAction i base ms operation.Renew)
    w (λ n k e. numbered _ w e tt) h
by_operation i base id ms operation.Remove w h = by_name (id_text i) id no_action
    (IsOfAction i base ms operation.Remove) w (λ n k. by_name (recovery_uri i base) _ no_member
    (λ m v. Same v (Ok (api_request.Leave n m))) w (λ m j e. numbered _ w e tt)) h
by_operation i base id ms operation.MemberStatus w h = by_name (id_text i) id no_member
    (IsOfMember ms operation.MemberStatus) w (λ n k e. numbered _ w e tt) h
by_operation i base id ms operation.Report w h = by_name (id_text i) id no_member (IsOfMember ms operation.Report) w
    (λ n k e. numbered _ w e tt) h

by_body : (i : ℕ) (base id : List ℕ) (r : Operation) (o : Option Members) (w : ApiRequest)
    → MatchOption o (Same (Ok w) (Err BadBody)) (λ ms. IsApiRequest i base id ms r (Ok w)) → HasNumber w
by_body i base id r None w h = absurd cc
by_body i base id r (Some ms) w h = by_operation i base id ms r w h

by_path : (i : ℕ) (base : List ℕ) (request : Request) (o : Result Operation ApiError) (w : ApiRequest)
    → MatchResult o (λ r. MatchOption (body_of r request.body) (Same (Ok w) (Err BadBody))
    (λ ms. IsApiRequest i base (id_in request.target) ms r (Ok w))) (λ d. Same (Ok w) (Err d)) → HasNumber w
by_path i base request (Ok r) w h = by_body i base (id_in request.target) r (body_of r request.body) w h
by_path i base request (Err d) w h = absurd cc

asked_number : (i : ℕ) (base : List ℕ) (request : Request) (w : ApiRequest) → MayAsk i base request (Ok w) → HasNumber w
asked_number i base request w (inl (e, lacks)) = absurd cc
asked_number i base request w (inr h) = by_path i base request (operation_of request.method request.target) w h

-- ---- what the counter returns

start_tells : (p : Option ℕ) (l : ℕ) (t : Told) → CanTell (order.Start p l) t → IsTellable (api_request.Start p l) t
start_tells p l (told.Action n) h = h
start_tells p l _ h = absurd h

join_tells : (a b : ℕ) (given : Bor Addresses) (u : Addresses) (t : Told) → CanTell (order.Join b given) t
    → IsTellable (api_request.Join a u) t
join_tells a b given u (told.Member n) h = h
join_tells a b given u (told.AlreadyMember n) h = h
join_tells a b given u _ h = absurd h

leave_tells : (a p : ℕ) (t : Told) → CanTell (order.Leave a p) t → IsTellable (api_request.Leave a p) t
leave_tells a p told.Left h = tt
leave_tells a p _ h = absurd h

close_tells : (a : ℕ) (t : Told) → CanTell (order.Close a) t → IsTellable (api_request.Close a) t
close_tells a (told.Now s) h = tt
close_tells a (told.Already s) h = tt
close_tells a _ h = absurd h

cancel_tells : (a : ℕ) (t : Told) → CanTell (order.Cancel a) t → IsTellable (api_request.Cancel a) t
cancel_tells a (told.Now s) h = tt
cancel_tells a (told.Already s) h = tt
cancel_tells a _ h = absurd h

renew_tells : (a l : ℕ) (t : Told) → CanTell (order.Renew a l) t → IsTellable (api_request.Renew a l) t
renew_tells a l told.Renewed h = tt
renew_tells a l _ h = absurd h

status_tells : (a : ℕ) (t : Told) → IsIdentifiable a → CanTell (order.Status a) t → IsTellable (api_request.Status a) t
status_tells a (told.ActionIs s) k h = k
status_tells a _ k h = absurd h

report_tells : (p : ℕ) (e : Ending) (t : Told) → CanTell (order.Report p e) t → IsTellable (api_request.Report p e) t
report_tells p e (told.MemberNow s) h = tt
report_tells p e (told.MemberAlready s) h = tt
report_tells p e _ h = absurd h

member_tells : (p : ℕ) (t : Told) → CanTell (order.MemberStatus p) t → IsTellable (api_request.MemberStatus p) t
member_tells p (told.MemberIs s) h = tt
member_tells p _ h = absurd h

tells : (o : Order) (w : ApiRequest) (t : Told) → IsOrder w o → HasNumber w → CanTell o t → IsTellable w t
tells o (api_request.Start p l) t e k h = start_tells p l t (subst (λ x. CanTell x t) e h)
tells (order.Join b given) (api_request.Join a u) t e k h = join_tells a b given u t h
tells _ (api_request.Join a u) t e k h = absurd e
tells o (api_request.Leave a p) t e k h = leave_tells a p t (subst (λ x. CanTell x t) e h)
tells o (api_request.Close a) t e k h = close_tells a t (subst (λ x. CanTell x t) e h)
tells o (api_request.Cancel a) t e k h = cancel_tells a t (subst (λ x. CanTell x t) e h)
tells o (api_request.Renew a l) t e k h = renew_tells a l t (subst (λ x. CanTell x t) e h)
tells o (api_request.Status a) t e k h = status_tells a t k (subst (λ x. CanTell x t) e h)
tells o (api_request.Report p f) t e k h = report_tells p f t (subst (λ x. CanTell x t) e h)
tells o (api_request.MemberStatus p) t e k h = member_tells p t (subst (λ x. CanTell x t) e h)

-- a counter's reply can be answered
pub answerable : (before after : Sight) (moment : ℕ) (request : Request) (o : Order) (w : ApiRequest)
    (reply : Result Told CounterFault)
    → MayAsk before.setting.instance before.setting.base request (Ok w) → IsOrder w o
    → KeepsHistory before moment o reply after → IsAnswerable w reply
answerable before after moment request o w (Ok t) asks is keeps =
    tells o w t is (asked_number before.setting.instance before.setting.base request w asks)
    (counters_tell before after moment o t keeps)
answerable before after moment request o w (Err fault) asks is keeps = tt
