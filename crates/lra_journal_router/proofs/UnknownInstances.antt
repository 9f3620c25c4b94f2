-- A coordinator denies requests that name another instance than its own.
use Rattle.std.proofs.Common.{◌≡◌, ◌≢◌, ℕ, ◌<◌, ◌^◌, Bool, true, false, ◌&&◌, ◌++◌, List, [], Option, Some, None}
use Rattle.std.proofs.Common.{option_and_then, Result, Ok, Err, inl, inr, refl, sym, ap, ◌∙◌, subst}
use Rattle.std.specs.Prelude.{codes, unwrap_or, MatchOption}
use Rattle.std.specs.Result.{MatchResult}
use Rattle.serde_json.specs.Data.{Members}
use Rattle.lra_ids.specs.Identifiers.{id_text, action_uri, recovery_uri, IsSpelling}
use Rattle.lra_ids.specs.Bearing.{instance_in, instance_at_end}
use Rattle.lra_ids.proofs.Bearings.{read_whole, read_end}
use Rattle.lra_wire.specs.Request.{Request}
use Rattle.lra_model.specs.Words.{when}
use Rattle.lra_commands.specs.declared.refusal.Refusal.TheVariants as refusal
use Rattle.lra_front.specs.declared.operation.Operation.{Operation}
use Rattle.lra_front.specs.declared.operation.Operation.TheVariants as operation
use Rattle.lra_front.specs.declared.api_error.ApiError.{ApiError}
use Rattle.lra_front.specs.declared.api_error.ApiError.TheVariants.{BadBody, Refused}
use Rattle.lra_front.specs.declared.api_request.ApiRequest.{ApiRequest}
use Rattle.lra_front.specs.declared.api_request.ApiRequest.TheVariants as api_request
use Rattle.lra_front.specs.Routes.{operation_of, id_in}
use Rattle.lra_front.specs.Bodies.{body_of, object_in, text_under, members_fit, has_needed, fitting}
use Rattle.lra_front.specs.ApiRequests.{
  no_action,
  no_member,
  limit_in,
  IsNamed,
  IsStart,
  IsOfAction,
  IsOfMember,
  IsApiRequest,
}
use Rattle.lra_journal_router.specs.Naming.{parent_of, parent_in, named_at, named_by, instance_of}
use Rattle.lra_journal_router.specs.Serving.{unknown_at}
use Rattle.lra_journal_router.specs.Laws.{IdentifiersName, UnknownInstancesDeny, TwoAreRefused}

-- ---- what is named

some_same : {A : Type 0} (x y : A) → Some x ≡ Some y → x ≡ y
some_same x y e = cc

-- an identifier that isn't spelled by an instance is denied
denied : (spelled : ℕ → List ℕ) (text : List ℕ) (none : ApiError) (Next : ℕ → Result ApiRequest ApiError → Type 0)
    (w : Result ApiRequest ApiError)
    → ((n : ℕ) → ¬ (IsSpelling spelled text n)) → IsNamed spelled text none Next w → w ≡ Err none
denied spelled text none Next w other (inl (n, is, h)) = absurd (other n is)
denied spelled text none Next w other (inr (h, e)) = e

-- the text of another instance's identifier
not_whole : (i j : ℕ) (id : List ℕ) → i < 2 ^ 60 → i ≢ j → instance_in id ≡ Some j → (n : ℕ)
    → ¬ (IsSpelling (id_text i) id n)
not_whole i j id small other named n is =
    other (some_same i j (sym (read_whole i n (small, is.1)) ∙ ap instance_in (sym is.2) ∙ named))

-- a URI that ends otherwise
not_end : (before : List ℕ) (i n : ℕ) (uri : List ℕ) → i < 2 ^ 60 → n < 2 ^ 62 → instance_at_end uri ≢ Some i → uri
    ≢ before ++ id_text i n
not_end before i n uri small number other is = other (ap instance_at_end is ∙ read_end before i n (small, number))

not_action : (i : ℕ) (base uri : List ℕ) → i < 2 ^ 60 → instance_at_end uri ≢ Some i → (n : ℕ)
    → ¬ (IsSpelling (action_uri i base) uri n)
not_action i base uri small other n is = not_end (base ++ codes "lra-coordinator/") i n uri small is.1 other is.2

not_recovery : (i : ℕ) (base uri : List ℕ) → i < 2 ^ 60 → instance_at_end uri ≢ Some i → (n : ℕ)
    → ¬ (IsSpelling (recovery_uri i base) uri n)
not_recovery i base uri small other n is = not_end (base ++ codes "lra-recovery/") i n uri small is.1 other is.2

-- ---- a start

-- the members of a body that fits are those of its object
fitting_same : (r : Operation) (o : Option Members) (ms : Members) → option_and_then (fitting r) o ≡ Some ms → o
    ≡ Some ms
fitting_same r None ms e = e
fitting_same r (Some m) ms e = by (members_fit r m) (has_needed r m) e where
  by : (a b : Bool) → when (a && b) m ≡ Some ms → Some m ≡ Some ms
  by true true k = k
  by true false k = absurd cc
  by false b k = absurd cc

start_object : (body : List ℕ) (ms : Members) → body_of operation.Start body ≡ Some ms → object_in body ≡ Some ms
unfolding body_of
start_object body ms e = fitting_same operation.Start (object_in body) ms e

-- what a start asks for below a parent
abbrev IsBelow : Members → ℕ → Result ApiRequest ApiError → Type 0
IsBelow ms parent v = v ≡ Ok (api_request.Start (Some parent) (limit_in ms))

start_denied : (i j : ℕ) (base : List ℕ) (ms : Members) (w : Result ApiRequest ApiError) → i < 2 ^ 60 → i ≢ j
    → parent_of (Some ms) ≡ Some j → IsStart i base ms w → w ≡ Err no_action
start_denied i j base ms w small other named h = by (text_under (codes "parent") ms) named h where
  by : (o : Option (List ℕ)) → option_and_then instance_at_end o ≡ Some j
      → MatchOption o (w ≡ Ok (api_request.Start None (limit_in ms))) (λ uri. IsNamed (action_uri i base) uri no_action
      (IsBelow ms) w) → w ≡ Err no_action
  by None e k = absurd cc
  by (Some uri) e k =
      denied (action_uri i base) uri no_action (IsBelow ms) w (not_action i base uri small
      (λ is. other (some_same i j (sym is ∙ e)))) k

-- ---- any operation

action_denied : (i j : ℕ) (base id : List ℕ) (r : Operation) (ms : Members) (w : Result ApiRequest ApiError)
    → i < 2 ^ 60 → i
    ≢ j → instance_in id ≡ Some j
    → IsNamed (id_text i) id no_action (IsOfAction i base ms r) w → w ≡ Err no_action
action_denied i j base id r ms w small other named h = denied (id_text i) id no_action (IsOfAction i base ms r) w
    (not_whole i j id small other named) h

member_denied : (i j : ℕ) (id : List ℕ) (r : Operation) (ms : Members) (w : Result ApiRequest ApiError) → i < 2 ^ 60
    → i ≢ j
    → instance_in id ≡ Some j
    → IsNamed (id_text i) id no_member (IsOfMember ms r) w → w ≡ Err no_member
member_denied i j id r ms w small other named h = denied (id_text i) id no_member (IsOfMember ms r) w
    (not_whole i j id small other named) h

operation_denied : (i j : ℕ) (base : List ℕ) (request : Request) (r : Operation) (ms : Members)
    (w : Result ApiRequest ApiError)
    → i < 2 ^ 60 → i ≢ j → named_at request r ≡ Some j
    → body_of r request.body ≡ Some ms → IsApiRequest i base (id_in request.target) ms r w → w ≡ Err (unknown_at r)
unfolding parent_in
operation_denied i j base request operation.Start ms w small other named body h =
    start_denied i j base ms w small other (ap parent_of (sym (start_object request.body ms body)) ∙ named) h
operation_denied i j base request operation.MemberStatus ms w small other named body h =
    member_denied i j (id_in request.target) operation.MemberStatus ms w small other named h
operation_denied i j base request operation.Report ms w small other named body h =
    member_denied i j (id_in request.target) operation.Report ms w small other named h
operation_denied i j base request operation.Status ms w small other named body h =
    action_denied i j base (id_in request.target) operation.Status ms w small other named h
operation_denied i j base request operation.Join ms w small other named body h =
    action_denied i j base (id_in request.target) operation.Join ms w small other named h
operation_denied i j base request operation.Close ms w small other named body h =
    action_denied i j base (id_in request.target) operation.Close ms w small other named h
operation_denied i j base request operation.Cancel ms w small other named body h =
    action_denied i j base (id_in request.target) operation.Cancel ms w small other named h
operation_denied i j base request operation.Remove ms w small other named body h =
    action_denied i j base (id_in request.target) operation.Remove ms w small other named h
operation_denied i j base request operation.Renew ms w small other named body h =
    action_denied i j base (id_in request.target) operation.Renew ms w small other named h

body_denied : (i j : ℕ) (base : List ℕ) (request : Request) (r : Operation) (w : Result ApiRequest ApiError)
    (o : Option Members) → i < 2 ^ 60 → i ≢ j → named_at request r ≡ Some j
    → body_of r request.body ≡ o → MatchOption o (w ≡ Err BadBody)
    (λ ms. IsApiRequest i base (id_in request.target) ms r w)
    → (d : ApiError) × MatchOption o (d ≡ BadBody) (λ ms. d ≡ unknown_at r) × (w ≡ Err d)
body_denied i j base request r w None small other named body h = (BadBody, refl, h)
body_denied i j base request r w (Some ms) small other named body h =
    (unknown_at r, refl, operation_denied i j base request r ms w small other named body h)

asked_denied : (i j : ℕ) (base : List ℕ) (request : Request) (w : Result ApiRequest ApiError)
    (rr : Result Operation ApiError) → i
    < 2 ^ 60 → i ≢ j → named_by request rr ≡ Some j
    → MatchResult rr (λ r. MatchOption (body_of r request.body) (w ≡ Err BadBody)
    (λ ms. IsApiRequest i base (id_in request.target) ms r w)) (λ d. w ≡ Err d)
    → (d : ApiError) × MatchResult rr (λ r. MatchOption (body_of r request.body) (d ≡ BadBody) (λ ms. d ≡ unknown_at r))
    (λ e. d ≡ e) × (w ≡ Err d)
asked_denied i j base request w (Err d) small other named h = absurd cc
asked_denied i j base request w (Ok r) small other named h = body_denied i j base request r w (body_of r request.body)
    small other named refl h

pub unknown_instances_deny : UnknownInstancesDeny
unfolding instance_of
unknown_instances_deny i j base request w small named other (inl (e, lacks)) =
    (Refused refusal.Memory, inl (refl, lacks), e)
unknown_instances_deny i j base request w small named other (inr asks) =
    let k = asked_denied i j base request w (operation_of request.method request.target) small other named asks in
    (k.0, inr k.1, k.2)

-- ---- two instances

-- what a member that leaves asks for
abbrev IsLeaving : ℕ → ℕ → Result ApiRequest ApiError → Type 0
IsLeaving action m v = v ≡ Ok (api_request.Leave action m)

recovery_refused : (i : ℕ) (base id uri : List ℕ) (ms : Members) (w : Result ApiRequest ApiError) → i < 2 ^ 60
    → text_under (codes "recovery") ms ≡ Some uri
    → instance_at_end uri ≢ Some i → IsNamed (id_text i) id no_action (IsOfAction i base ms operation.Remove) w
    → IsNamed (id_text i) id no_action (λ action v. v ≡ Err no_member) w
recovery_refused i base id uri ms w small text other (inl (n, is, h)) =
    inl (
      n,
      is,
      denied (recovery_uri i base) uri no_member (IsLeaving n) w (not_recovery i base uri small other)
          (subst (λ (o : Option (List ℕ)). IsNamed (recovery_uri i base) (unwrap_or o []) no_member (IsLeaving n) w)
          text h),
    )
recovery_refused i base id uri ms w small text other (inr h) = inr h

pub two_refused : TwoAreRefused
two_refused i base request ms uri w small served body text other (inl memory) = inl memory
two_refused i base request ms uri w small served body text other (inr asks) =
    let P : Result Operation ApiError → Type 0 = λ rr. MatchResult rr (λ r. MatchOption (body_of r request.body)
    (w ≡ Err BadBody) (λ m. IsApiRequest i base (id_in request.target) m r w)) (λ d. w ≡ Err d) in
    let Q : Option Members → Type 0 = λ o. MatchOption o (w ≡ Err BadBody)
    (λ m. IsApiRequest i base (id_in request.target) m operation.Remove w) in
    inr (recovery_refused i base (id_in request.target) uri ms w small text other (subst Q body (subst P served asks)))

-- ---- which identifier is named

inside_named : (request : Request) (i n : ℕ) (r : Operation) → r ≢ operation.Start → instance_in (id_in request.target)
    ≡ Some i → named_at request r ≡ Some i
inside_named request i n operation.Start inside e = absurd (inside refl)
inside_named request i n operation.Status inside e = e
inside_named request i n operation.Join inside e = e
inside_named request i n operation.Close inside e = e
inside_named request i n operation.Cancel inside e = e
inside_named request i n operation.Remove inside e = e
inside_named request i n operation.Renew inside e = e
inside_named request i n operation.MemberStatus inside e = e
inside_named request i n operation.Report inside e = e

pub identifiers_name : IdentifiersName
unfolding instance_of parent_in
identifiers_name request i (inl h) =
    ap (named_by request) h.served ∙ inside_named request i h.number h.place h.inside
    (ap instance_in h.text ∙ read_whole i h.number h.borne)
identifiers_name request i (inr h) =
    ap (named_by request) h.served ∙ ap parent_of h.read ∙ ap (option_and_then instance_at_end) h.text
    ∙ read_end (h.base ++ codes "lra-coordinator/") i h.number h.borne
