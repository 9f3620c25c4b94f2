-- What is asked for, from what was found.
use Rattle.std.proofs.Common.{◌≡◌, ℕ, List, true, inl, inr, Option, Some, None, IfSome, Result, sym, true≢false}
use Rattle.serde_json.specs.Data.{Members}
use Rattle.lra_ids.specs.Identifiers.{id_text, IsSpelling}
use Rattle.lra_front.specs.declared.operation.Operation.{Operation}
use Rattle.lra_front.specs.declared.operation.Operation.TheVariants as operation
use Rattle.lra_front.specs.declared.api_error.ApiError.{ApiError}
use Rattle.lra_front.specs.declared.api_request.ApiRequest.{ApiRequest}
use Rattle.lra_front.specs.ApiRequests.{no_action, IsNamed, IsOfAction, IsApiRequest}
use Rattle.lra_front.specs.inner.Finds.{is_of_action, OrMemory}

named_action : (i : ℕ) (base id : List ℕ) (ms : Members) (r : Operation) (w : Result ApiRequest ApiError)
    → is_of_action r
    ≡ true
    → IsNamed (id_text i) id no_action (IsOfAction i base ms r) w → IsApiRequest i base id ms r w
named_action i base id ms operation.Start w of h = absurd (true≢false (sym of))
named_action i base id ms operation.MemberStatus w of h = absurd (true≢false (sym of))
named_action i base id ms operation.Report w of h = absurd (true≢false (sym of))
named_action i base id ms operation.Status w of h = h
named_action i base id ms operation.Join w of h = h
named_action i base id ms operation.Close w of h = h
named_action i base id ms operation.Cancel w of h = h
named_action i base id ms operation.Remove w of h = h
named_action i base id ms operation.Renew w of h = h

or_named : (i : ℕ) (base id : List ℕ) (ms : Members) (r : Operation) (a : ℕ) (w : Result ApiRequest ApiError)
    → is_of_action r
    ≡ true
    → IsSpelling (id_text i) id a → OrMemory r (IsOfAction i base ms r a) w → OrMemory r (IsApiRequest i base id ms r) w
or_named i base id ms r a w of is (inl memory) = inl memory
or_named i base id ms r a w of is (inr h) = inr (named_action i base id ms r w of (inl (a, is, h)))

pub api_request_of_action : (i : ℕ) (base id : List ℕ) (o : Option Members) (r : Operation) (a : ℕ)
    (w : Result ApiRequest ApiError)
    → is_of_action r ≡ true
    → IsSpelling (id_text i) id a → IfSome o (λ ms. OrMemory r (IsOfAction i base ms r a) w)
    → IfSome o (λ ms. OrMemory r (IsApiRequest i base id ms r) w)
api_request_of_action i base id None r a w of is h = tt
api_request_of_action i base id (Some ms) r a w of is h = or_named i base id ms r a w of is h
