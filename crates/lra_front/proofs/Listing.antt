-- The table of operations has the code of each reply.
use Rattle.std.proofs.Common.{◌≡◌, ℕ, Bool, true, false, List, ◌∷◌, [], inl, inr, Option, Some, None, Result, Ok, Err}
use Rattle.std.proofs.Common.{refl, sym, ap, subst}
use Rattle.std.specs.Prelude.{codes, unwrap_or, not, ◌||◌, if◌then◌else◌, MatchOption}
use Rattle.std.specs.Option.{option_map_or}
use Rattle.std.specs.Result.{MatchResult}
use Rattle.std.proofs.lemmas.Bool.{not-false}
use Rattle.serde_json.specs.Data.{Members, no_members}
use Rattle.lra_model.specs.declared.status.ActionStatus.{ActionStatus}
use Rattle.lra_model.specs.declared.status.Ending.{Ending}
use Rattle.lra_model.specs.Addresses.{Addresses}
use Rattle.lra_model.specs.Words.{is_closing, is_cancelling}
use Rattle.lra_model.specs.History.{History}
use Rattle.lra_wire.specs.Request.{Request}
use Rattle.lra_ids.specs.Identifiers.{id_text, action_uri, recovery_uri}
use Rattle.lra_commands.specs.declared.command.Told.{Told}
use Rattle.lra_commands.specs.declared.command.Told.TheVariants as told
use Rattle.lra_commands.specs.declared.counter.Order.{Order}
use Rattle.lra_commands.specs.declared.counter.Order.TheVariants as order
use Rattle.lra_commands.specs.declared.counter.CounterFault.{CounterFault}
use Rattle.lra_commands.specs.declared.counter.CounterFault.TheVariants.{Refused as CounterRefused, Worn as CounterWorn}
use Rattle.lra_commands.specs.declared.refusal.Refusal.{Refusal}
use Rattle.lra_commands.specs.declared.refusal.Refusal.TheVariants as refusal
use Rattle.lra_commands.specs.declared.limits.Terms.{Terms}
use Rattle.lra_commands.specs.Calls.{Call}
use Rattle.lra_commands.specs.Refusals.{grounds, first_ground, refused}
use Rattle.lra_commands.specs.Answers.{told_of, answer as call_answer}
use Rattle.lra_commands.specs.Counters.{Sight, KeepsHistory, IsRefusedAt, call_of, terms_of}
use Rattle.lra_commands.proofs.Grounds.{names, other_first}
use Rattle.lra_front.specs.declared.operation.Operation.{Operation}
use Rattle.lra_front.specs.declared.operation.Operation.TheVariants as operation
use Rattle.lra_front.specs.declared.api_error.ApiError.{ApiError}
use Rattle.lra_front.specs.declared.api_error.ApiError.TheVariants as api_error
use Rattle.lra_front.specs.declared.answer.Answer.{Answer}
use Rattle.lra_front.specs.declared.answer.Answer.TheVariants as answer
use Rattle.lra_front.specs.declared.api_request.ApiRequest.{ApiRequest}
use Rattle.lra_front.specs.declared.api_request.ApiRequest.TheVariants as api_request
use Rattle.lra_front.specs.Operations.{refusals}
use Rattle.lra_front.specs.Routes.{operation_of, id_in}
use Rattle.lra_front.specs.Bodies.{body_of, text_under}
use Rattle.lra_front.specs.ApiRequests.{
  no_action,
  no_member,
  limit_in,
  IsNamed,
  IsOfAction,
  IsOfMember,
  IsApiRequest,
  MayAsk,
}
use Rattle.lra_front.specs.ApiRequests.{IsOrder}
use Rattle.lra_front.specs.Replies.{refusal_code, api_error_code}
use Rattle.lra_front.specs.Serving.{Answers, TellsOf, Responds}
use Rattle.lra_front.specs.Listed.{has_code, is_listed, RepliesAreListed}

-- the operation that asks for it
abbrev asked_by : ApiRequest → Operation
asked_by (api_request.Start parent limit) = operation.Start
asked_by (api_request.Join action uris) = operation.Join
asked_by (api_request.Leave action m) = operation.Remove
asked_by (api_request.Close action) = operation.Close
asked_by (api_request.Cancel action) = operation.Cancel
asked_by (api_request.Renew action limit) = operation.Renew
asked_by (api_request.Status action) = operation.Status
asked_by (api_request.Report m e) = operation.Report
asked_by (api_request.MemberStatus m) = operation.MemberStatus

-- each operation has refusals that bear on all
unavailable : (o : Operation) → has_code 503 (refusals o) ≡ true
unavailable operation.Start = refl
unavailable operation.Status = refl
unavailable operation.Join = refl
unavailable operation.Close = refl
unavailable operation.Cancel = refl
unavailable operation.Remove = refl
unavailable operation.Renew = refl
unavailable operation.MemberStatus = refl
unavailable operation.Report = refl

-- ---- what is asked for

-- the operation makes the API request, or the table has the code of the API error
abbrev IsOf : Operation → Result ApiRequest ApiError → Type 0
IsOf o (Ok w) = asked_by w ≡ o
IsOf o (Err d) = has_code (api_error_code d) (refusals o) ≡ true

moved : (o : Operation) (v w : Result ApiRequest ApiError) → w ≡ v → IsOf o v → IsOf o w
moved o v w e h = let P : Result ApiRequest ApiError → Type 0 = λ x. IsOf o x in subst P (sym e) h

by_name : (o : Operation) (spelled : ℕ → List ℕ) (text : List ℕ) (none : ApiError)
    (Next : ℕ → Result ApiRequest ApiError → Type 0) (w : Result ApiRequest ApiError)
    → has_code (api_error_code none) (refusals o) ≡ true → ((n : ℕ) → Next n w → IsOf o w)
    → IsNamed spelled text none Next w → IsOf o w
by_name o spelled text none Next w listed next (inl (n, is, h)) = next n h
by_name o spelled text none Next w listed next (inr (other, e)) = moved o (Err none) w e listed

by_start : (i : ℕ) (base : List ℕ) (parent : Option (List ℕ)) (limit : ℕ) (w : Result ApiRequest ApiError)
    → MatchOption parent (w ≡ Ok (api_request.Start None limit))
    (λ uri. IsNamed (action_uri i base) uri no_action (λ n v. v ≡ Ok (api_request.Start (Some n) limit)) w)
    → IsOf operation.Start w
by_start i base None limit w h = moved operation.Start (Ok (api_request.Start None limit)) w h refl
by_start i base (Some uri) limit w h =
    by_name operation.Start (action_uri i base) uri no_action (λ n v. v ≡ Ok (api_request.Start (Some n) limit)) w refl
    (λ n e. moved operation.Start (Ok (api_request.Start (Some n) limit)) w e refl) h

by_operation : (i : ℕ) (base id : List ℕ) (ms : Members) (o : Operation) (w : Result ApiRequest ApiError)
    → IsApiRequest i base id ms o w → IsOf o w
by_operation i base id ms operation.Start w h = by_start i base (text_under (codes "parent") ms) (limit_in ms) w h
by_operation i base id ms operation.Status w h =
    by_name operation.Status (id_text i) id no_action (IsOfAction i base ms operation.Status) w refl
    (λ n e. moved operation.Status _ w e refl) h
by_operation i base id ms operation.Join w h =
    by_name operation.Join (id_text i) id no_action (IsOfAction i base ms operation.Join) w refl
    (λ n e. moved operation.Join _ w e refl) h
by_operation i base id ms operation.Close w h =
    by_name operation.Close (id_text i) id no_action (IsOfAction i base ms operation.Close) w refl
    (λ n e. moved operation.Close _ w e refl) h
by_operation i base id ms operation.Cancel w h =
    by_name operation.Cancel (id_text i) id no_action (IsOfAction i base ms operation.Cancel) w refl
    (λ n e. moved operation.Cancel _ w e refl) h
by_operation i base id ms operation.Renew w h =
    by_name operation.Renew (id_text i) id no_action (IsOfAction i base ms operation.Renew) w refl
    (λ n e. moved operation.Renew _ w e refl) h
by_operation i base id ms operation.Remove w h =
    by_name operation.Remove (id_text i) id no_action (IsOfAction i base ms operation.Remove) w refl
    (λ n. by_name operation.Remove (recovery_uri i base) (unwrap_or (text_under (codes "recovery") ms) []) no_member
    (λ m v. v ≡ Ok (api_request.Leave n m)) w refl
    (λ m e. moved operation.Remove (Ok (api_request.Leave n m)) w e refl))
    h
by_operation i base id ms operation.MemberStatus w h =
    by_name operation.MemberStatus (id_text i) id no_member (IsOfMember ms operation.MemberStatus) w refl
    (λ n e. moved operation.MemberStatus _ w e refl) h
by_operation i base id ms operation.Report w h =
    by_name operation.Report (id_text i) id no_member (IsOfMember ms operation.Report) w refl
    (λ n e. moved operation.Report _ w e refl) h

-- what a body asks for, and that it isn't one that is read
abbrev AsksBy : ℕ → List ℕ → List ℕ → Operation → Result ApiRequest ApiError → Option Members → Type 0
AsksBy i base id o w body = MatchOption body (w ≡ Err api_error.BadBody) (λ ms. IsApiRequest i base id ms o w)

by_body : (i : ℕ) (base id : List ℕ) (o : Operation) (w : Result ApiRequest ApiError) (body : Option Members)
    → has_code 400 (refusals o) ≡ true → AsksBy i base id o w body → IsOf o w
by_body i base id o w None listed h = moved o (Err api_error.BadBody) w h listed
by_body i base id o w (Some ms) listed h = by_operation i base id ms o w h

-- a GET ignores its body
by_request : (i : ℕ) (base id bytes : List ℕ) (o : Operation) (w : Result ApiRequest ApiError)
    → AsksBy i base id o w (body_of o bytes) → IsOf o w
unfolding body_of
by_request i base id bytes operation.Status w h = by_operation i base id no_members operation.Status w h
by_request i base id bytes operation.MemberStatus w h = by_operation i base id no_members operation.MemberStatus w h
by_request i base id bytes operation.Start w h =
    by_body i base id operation.Start w (body_of operation.Start bytes) refl h
by_request i base id bytes operation.Join w h =
    by_body i base id operation.Join w (body_of operation.Join bytes) refl h
by_request i base id bytes operation.Close w h =
    by_body i base id operation.Close w (body_of operation.Close bytes) refl h
by_request i base id bytes operation.Cancel w h =
    by_body i base id operation.Cancel w (body_of operation.Cancel bytes) refl h
by_request i base id bytes operation.Remove w h =
    by_body i base id operation.Remove w (body_of operation.Remove bytes) refl h
by_request i base id bytes operation.Renew w h =
    by_body i base id operation.Renew w (body_of operation.Renew bytes) refl h
by_request i base id bytes operation.Report w h =
    by_body i base id operation.Report w (body_of operation.Report bytes) refl h

asked : (i : ℕ) (base : List ℕ) (request : Request) (o : Operation) (w : Result ApiRequest ApiError)
    → operation_of request.method request.target ≡ Ok o → MayAsk i base request w → IsOf o w
asked i base request o w e (inl (memory, lacks)) =
    moved o (Err (api_error.Refused refusal.Memory)) w memory (unavailable o)
asked i base request o w e (inr h) =
    let P : Result Operation ApiError → Type 0 = λ x. MatchResult x
    (λ r. AsksBy i base (id_in request.target) r w (body_of r request.body)) (λ d. w ≡ Err d) in
    by_request i base (id_in request.target) request.body o w (subst P e h)

-- ---- what the counter returns

listed_as : (o : Operation) (a b : Answer) → a ≡ b → is_listed o b ≡ true → is_listed o a ≡ true
listed_as o a b e h = subst (λ (x : Answer). is_listed o x ≡ true) (sym e) h

-- an end that was asked for is reached, or isn't
either : (c : Bool) → has_code (if c then 202 else 200) (200 ∷ 202 ∷ []) ≡ true
either true = refl
either false = refl

turned : (s : ActionStatus) → has_code (if is_closing s || is_cancelling s then 202 else 200) (200 ∷ 202 ∷ []) ≡ true
turned s = either (is_closing s || is_cancelling s)

start_listed : (p : Option ℕ) (l : ℕ) (t : Told) (a : Answer) → TellsOf (api_request.Start p l) t a
    → is_listed operation.Start a ≡ true
start_listed p l (told.Action n) a h = listed_as operation.Start a (answer.Started n) h refl
start_listed p l _ a h = absurd h

join_listed : (b : ℕ) (u : Addresses) (t : Told) (a : Answer) → TellsOf (api_request.Join b u) t a
    → is_listed operation.Join a ≡ true
join_listed b u (told.Member n) a h = listed_as operation.Join a (answer.Joined n) h refl
join_listed b u (told.AlreadyMember n) a h = listed_as operation.Join a (answer.Joined n) h refl
join_listed b u _ a h = absurd h

leave_listed : (b p : ℕ) (t : Told) (a : Answer) → TellsOf (api_request.Leave b p) t a
    → is_listed operation.Remove a ≡ true
leave_listed b p told.Left a h = listed_as operation.Remove a answer.Left h refl
leave_listed b p _ a h = absurd h

close_listed : (b : ℕ) (t : Told) (a : Answer) → TellsOf (api_request.Close b) t a → is_listed operation.Close a ≡ true
close_listed b (told.Now s) a h = listed_as operation.Close a (answer.Turned s) h (turned s)
close_listed b (told.Already s) a h = listed_as operation.Close a (answer.Turned s) h (turned s)
close_listed b _ a h = absurd h

cancel_listed : (b : ℕ) (t : Told) (a : Answer) → TellsOf (api_request.Cancel b) t a
    → is_listed operation.Cancel a ≡ true
cancel_listed b (told.Now s) a h = listed_as operation.Cancel a (answer.Turned s) h (turned s)
cancel_listed b (told.Already s) a h = listed_as operation.Cancel a (answer.Turned s) h (turned s)
cancel_listed b _ a h = absurd h

renew_listed : (b l : ℕ) (t : Told) (a : Answer) → TellsOf (api_request.Renew b l) t a
    → is_listed operation.Renew a ≡ true
renew_listed b l told.Renewed a h = listed_as operation.Renew a answer.Renewed h refl
renew_listed b l _ a h = absurd h

status_listed : (b : ℕ) (t : Told) (a : Answer) → TellsOf (api_request.Status b) t a
    → is_listed operation.Status a ≡ true
status_listed b (told.ActionIs s) a h = listed_as operation.Status a (answer.Found b s) h refl
status_listed b _ a h = absurd h

report_listed : (p : ℕ) (e : Ending) (t : Told) (a : Answer) → TellsOf (api_request.Report p e) t a
    → is_listed operation.Report a ≡ true
report_listed p e (told.MemberNow s) a h = listed_as operation.Report a (answer.Member s) h refl
report_listed p e (told.MemberAlready s) a h = listed_as operation.Report a (answer.Member s) h refl
report_listed p e _ a h = absurd h

member_listed : (p : ℕ) (t : Told) (a : Answer) → TellsOf (api_request.MemberStatus p) t a
    → is_listed operation.MemberStatus a ≡ true
member_listed p (told.MemberIs s) a h = listed_as operation.MemberStatus a (answer.Member s) h refl
member_listed p _ a h = absurd h

told_listed : (w : ApiRequest) (t : Told) (a : Answer) → TellsOf w t a → is_listed (asked_by w) a ≡ true
told_listed (api_request.Start p l) t a h = start_listed p l t a h
told_listed (api_request.Join b u) t a h = join_listed b u t a h
told_listed (api_request.Leave b p) t a h = leave_listed b p t a h
told_listed (api_request.Close b) t a h = close_listed b t a h
told_listed (api_request.Cancel b) t a h = cancel_listed b t a h
told_listed (api_request.Renew b l) t a h = renew_listed b l t a h
told_listed (api_request.Status b) t a h = status_listed b t a h
told_listed (api_request.Report p e) t a h = report_listed p e t a h
told_listed (api_request.MemberStatus p) t a h = member_listed p t a h

-- ---- what is refused

-- the table lacks a refusal's code
abbrev is_missing : Operation → Refusal → Bool
is_missing o r = not (has_code (refusal_code r) (refusals o))

-- none of the grounds on which an order may be refused is missing
none_missing : (s : Terms) (J : History) (by m : ℕ) (w : ApiRequest) (o : Order) → IsOrder w o
    → names (is_missing (asked_by w)) (grounds s J (call_of by m o)) ≡ false
none_missing s J by m (api_request.Start p l) o e = subst
    (λ (x : Order). names (is_missing operation.Start) (grounds s J (call_of by m x)) ≡ false) (sym e) refl
none_missing s J by m (api_request.Join b u) (order.Join c given) e = refl
none_missing s J by m (api_request.Join b u) _ e = absurd e
none_missing s J by m (api_request.Leave b p) o e = subst
    (λ (x : Order). names (is_missing operation.Remove) (grounds s J (call_of by m x)) ≡ false) (sym e) refl
none_missing s J by m (api_request.Close b) o e =
    subst (λ (x : Order). names (is_missing operation.Close) (grounds s J (call_of by m x)) ≡ false) (sym e) refl
none_missing s J by m (api_request.Cancel b) o e =
    subst (λ (x : Order). names (is_missing operation.Cancel) (grounds s J (call_of by m x)) ≡ false) (sym e) refl
none_missing s J by m (api_request.Renew b l) o e = subst
    (λ (x : Order). names (is_missing operation.Renew) (grounds s J (call_of by m x)) ≡ false) (sym e) refl
none_missing s J by m (api_request.Status b) o e =
    subst (λ (x : Order). names (is_missing operation.Status) (grounds s J (call_of by m x)) ≡ false) (sym e) refl
none_missing s J by m (api_request.Report p f) o e = subst
    (λ (x : Order). names (is_missing operation.Report) (grounds s J (call_of by m x)) ≡ false) (sym e) refl
none_missing s J by m (api_request.MemberStatus p) o e = subst
    (λ (x : Order). names (is_missing operation.MemberStatus) (grounds s J (call_of by m x)) ≡ false) (sym e) refl

-- an answer that is a refusal has the first ground that holds
first_of : (s : Terms) (J : History) (c : Call) (r : Refusal) → call_answer s J c ≡ Err r
    → first_ground (grounds s J c) ≡ Some r
unfolding call_answer refused
first_of s J c r h = some (first_ground (grounds s J c)) h
  where
    some : (o : Option Refusal) → option_map_or Err o (Ok (told_of s J c)) ≡ Err r → o ≡ Some r
    some None e = absurd cc
    some (Some q) e = let same : q ≡ r = cc in ap Some same

ground_listed : (s : Terms) (J : History) (by m : ℕ) (w : ApiRequest) (o : Order) (r : Refusal) → IsOrder w o
    → call_answer s J (call_of by m o) ≡ Err r
    → has_code (refusal_code r) (refusals (asked_by w)) ≡ true
ground_listed s J by m w o r e h =
    not-false _
    (other_first (is_missing (asked_by w)) (grounds s J (call_of by m o)) (none_missing s J by m w o e) r
    (first_of s J (call_of by m o) r h))

refused_listed : (s : Terms) (J : History) (by m : ℕ) (w : ApiRequest) (o : Order) (r : Refusal) → IsOrder w o
    → IsRefusedAt s J (call_of by m o) r
    → has_code (refusal_code r) (refusals (asked_by w)) ≡ true
refused_listed s J by m w o refusal.Stopped e h = unavailable (asked_by w)
refused_listed s J by m w o refusal.Memory e h = unavailable (asked_by w)
refused_listed s J by m w o r e h = ground_listed s J by m w o r e h

-- ---- what is answered

module _ (gives : Sight → ℕ → Order → Result Told CounterFault → Sight → Type 0)
    (keeps : (before after : Sight) (moment : ℕ) (o : Order) (reply : Result Told CounterFault)
    → gives before moment o reply after → KeepsHistory before moment o reply after) where
  answered : (before after : Sight) (moment : ℕ) (w : ApiRequest) (o : Order) (reply : Result Told CounterFault)
      (a : Answer)
      → IsOrder w o → gives before moment o reply after → Answers w reply a → is_listed (asked_by w) a ≡ true
  answered before after moment w o (Ok t) a e given h = told_listed w t a h
  answered before after moment w o (Err (CounterRefused r)) a e given h =
      let kept = keeps before after moment o (Err (CounterRefused r)) given in
      let at = kept.seen in
      listed_as (asked_by w) a (answer.Denied (api_error.Refused r)) h
      (refused_listed (terms_of before.setting) _ before.number moment w o r e at.2.told.0)
  answered before after moment w o (Err CounterWorn) a e given h =
      listed_as (asked_by w) a (answer.Denied api_error.Worn) h (unavailable (asked_by w))

  responds : (before after : Sight) (moment : ℕ) (request : Request) (o : Operation) (a : Answer)
      → operation_of request.method request.target ≡ Ok o → Responds gives before moment request after a
      → is_listed o a ≡ true
  responds before after moment request o a e (Ok w, asks, h) =
      subst (λ (x : Operation). is_listed x a ≡ true)
      (asked before.setting.instance before.setting.base request o (Ok w) e asks)
      (answered before after moment w h.order h.reply a h.asked h.given h.answered)
  responds before after moment request o a e (Err d, asks, h) =
      listed_as o a (answer.Denied d) h.0 (asked before.setting.instance before.setting.base request o (Err d) e asks)

-- the table has the code of each reply
pub replies_listed : (gives : Sight → ℕ → Order → Result Told CounterFault → Sight → Type 0)
    → ((before after : Sight) (moment : ℕ) (o : Order) (reply : Result Told CounterFault)
    → gives before moment o reply after → KeepsHistory before moment o reply after)
    → RepliesAreListed gives
replies_listed gives keeps before after moment request o a e h =
    responds gives keeps before after moment request o a e h
