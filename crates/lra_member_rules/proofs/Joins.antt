-- The value of a join's body.
use Rattle.std.proofs.Common.{◌≡◌, ℕ, Bool, true, false, not, List, Option, Some, None, IfSome, IsSome, is_some, Result}
use Rattle.std.proofs.Common.{Ok, Err, option_and_then, true≢false, refl, sym, ap, subst}
use Rattle.serde_json.specs.Data.{Data, Members}
use Rattle.serde_json.specs.Find.{as_object}
use Rattle.lra_front.specs.declared.operation.Operation.{Operation}
use Rattle.lra_front.specs.declared.operation.Operation.TheVariants as operation
use Rattle.lra_front.specs.declared.api_error.ApiError.{ApiError}
use Rattle.lra_front.specs.Bodies.{addresses_given, body_of, fitting, IsValueOf}
use Rattle.lra_front.proofs.Bodies as front
use Rattle.lra_member_rules.specs.Ruling.{are_let, is_outside_by, joins}

join_is : (found : Result Operation ApiError) → joins found ≡ true → found ≡ Ok operation.Join
join_is (Ok operation.Join) e = refl
join_is (Ok operation.Start) e = absurd (true≢false (sym e))
join_is (Ok operation.Status) e = absurd (true≢false (sym e))
join_is (Ok operation.Close) e = absurd (true≢false (sym e))
join_is (Ok operation.Cancel) e = absurd (true≢false (sym e))
join_is (Ok operation.Remove) e = absurd (true≢false (sym e))
join_is (Ok operation.Renew) e = absurd (true≢false (sym e))
join_is (Ok operation.MemberStatus) e = absurd (true≢false (sym e))
join_is (Ok operation.Report) e = absurd (true≢false (sym e))
join_is (Err d) e = absurd (true≢false (sym e))

none_outside : (rules : List (List ℕ)) (body : List ℕ) → body_of operation.Join body ≡ None
    → false ≡ is_outside_by rules body
none_outside rules body e = rw e refl

some_outside : (rules : List (List ℕ)) (body : List ℕ) (o : Option Members) (told : Bool)
    → body_of operation.Join body ≡ o → IsSome o → IfSome o (λ ms. told ≡ are_let rules (addresses_given ms))
    → not told ≡ is_outside_by rules body
some_outside rules body None told e some h = absurd (true≢false (sym some))
some_outside rules body (Some ms) told e some h = rw e (ap not h)

-- a body that isn't JSON
pub no_value : (rules : List (List ℕ)) (found : Result Operation ApiError) (body : List ℕ) → joins found ≡ true
    → IsValueOf found body None → false ≡ is_outside_by rules body
no_value rules found body e h =
    none_outside rules body (front.no_value operation.Join found body (join_is found e) h)

-- a value that a join doesn't read
pub unfit_value : (rules : List (List ℕ)) (found : Result Operation ApiError) (body : List ℕ) (d : Data)
    → joins found ≡ true → IsValueOf found body (Some d)
    → is_some (option_and_then (fitting operation.Join) (as_object d)) ≡ false → false ≡ is_outside_by rules body
unfit_value rules found body d e h fits =
    none_outside rules body (front.unfit_value operation.Join found body d (join_is found e) h fits)

-- a value that it reads
pub fit_value : (rules : List (List ℕ)) (found : Result Operation ApiError) (body : List ℕ) (d : Data) (told : Bool)
    → joins found ≡ true → IsValueOf found body (Some d)
    → is_some (option_and_then (fitting operation.Join) (as_object d)) ≡ true
    → IfSome (as_object d) (λ ms. told ≡ are_let rules (addresses_given ms)) → not told ≡ is_outside_by rules body
fit_value rules found body d told e h fits all_let =
    let is = front.fits_value operation.Join found body d (join_is found e) h fits in
    some_outside rules body (as_object d) told is.0 (subst IsSome is.0 is.1) all_let
