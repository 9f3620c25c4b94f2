-- What can be read from a body.
use Rattle.std.proofs.Common.{◌≡◌, ℕ, ◌<◌, ◌≤◌, Bool, true, false, ◌&&◌, List, [], ◌∷◌, length, Option, Some, None}
use Rattle.std.proofs.Common.{IfSome, IsSome, option_and_then, is_some, true≢false, Result, Ok, refl, sym}
use Rattle.std.proofs.Common.{ap, ◌∙◌, subst, arith}
use Rattle.std.specs.Str.{is_utf8, IsUtf8}
use Rattle.std.proofs.lemmas.Str.{is_utf8-from_IsUtf8, IsUtf8-from_is_utf8}
use Rattle.serde_json.specs.Data.{Data, Members, depth}
use Rattle.serde_json.specs.Read.{read, max_depth}
use Rattle.serde_json.specs.Find.{as_object}
use Rattle.lra_front.specs.declared.operation.Operation.{Operation}
use Rattle.lra_front.specs.declared.api_error.ApiError.{ApiError}
use Rattle.lra_model.specs.declared.status.Ending.{Ending}
use Rattle.lra_model.specs.declared.status.Ending.TheVariants as ending
use Rattle.lra_model.specs.Names.{ending_name}
use Rattle.lra_model.specs.Words.{when}
use Rattle.lra_model.proofs.ByName.{found_by_name}
use Rattle.lra_front.specs.Bodies.{endings, ending_named, object_in, reads_body, members_fit, has_needed, fitting}
use Rattle.lra_front.specs.Bodies.{body_of, IsValueOf}

itself : (e : Ending) → Some e ≡ ending_named (ending_name e)
itself ending.Completed = refl
itself ending.FailedToComplete = refl
itself ending.Compensated = refl
itself ending.FailedToCompensate = refl

none_named : (text : List ℕ) (o : Option Ending) → IfSome o (λ e. text ≡ ending_name e)
    → ((e : Ending) → text ≡ ending_name e → None ≡ Some e) → None ≡ o
none_named text None found only = refl
none_named text (Some e) found only = only e found

pub ending_is : (text : List ℕ) (r : Option Ending) → IfSome r (λ e. text ≡ ending_name e)
    → ((e : Ending) → text ≡ ending_name e → r ≡ Some e)
    → r ≡ ending_named text
ending_is text (Some e) found only = let P : List ℕ → Type 0 = λ t. Some e ≡ ending_named t in
    subst P (sym found) (itself e)
ending_is text None found only = none_named text (ending_named text) (found_by_name ending_name endings text) only

-- ---- the object that a body is

object_ok : (body : List ℕ) (d : Data) → 0 < length body → IsUtf8 body → read body ≡ Some d → object_in body
    ≡ as_object d
object_ok [] d some text e = absurd (omega arith)
object_ok (b ∷ rest) d some text e = rw (is_utf8-from_IsUtf8 (b ∷ rest) text, e) refl

object_by : (b : ℕ) (rest : List ℕ) (t : Bool) → is_utf8 (b ∷ rest) ≡ t → (IsUtf8 (b ∷ rest) → read (b ∷ rest) ≡ None)
    → object_in (b ∷ rest) ≡ None
object_by b rest true e h = rw (e, h (IsUtf8-from_is_utf8 (b ∷ rest) e)) refl
object_by b rest false e h = rw e refl

pub object_err : (body : List ℕ) → 0 < length body → (IsUtf8 body → read body ≡ None) → object_in body ≡ None
object_err [] some h = absurd (omega arith)
object_err (b ∷ rest) some h = object_by b rest (is_utf8 (b ∷ rest)) refl h

-- ---- the value that is read of a body for an operation

pub value_ok : (r : Operation) (b : List ℕ) (d : Data) → reads_body r ≡ true → 0 < length b → IsUtf8 b
    → read b ≡ Some d → depth d ≤ max_depth → IsValueOf (Ok r) b (Some d)
value_ok r b d e some text is nests = (rw e (object_ok b d some text is), nests)

pub value_err : (r : Operation) (b : List ℕ) → reads_body r ≡ true → 0 < length b → (IsUtf8 b → read b ≡ None)
    → IsValueOf (Ok r) b None
value_err r b e some h = rw e (object_err b some h)

-- ---- whether it fits the operation

pub is_some_when : (t : Bool) (ms : Members) → t ≡ is_some (when t ms)
is_some_when true ms = refl
is_some_when false ms = refl

same_when : (t : Bool) (ms : Members) → is_some (when t ms) ≡ true → when t ms ≡ Some ms
same_when true ms e = refl
same_when false ms e = absurd (true≢false (sym e))

fitting_is : (r : Operation) (o : Option Members) → is_some (option_and_then (fitting r) o) ≡ true
    → option_and_then (fitting r) o ≡ o
fitting_is r None e = refl
fitting_is r (Some ms) e = same_when (members_fit r ms && has_needed r ms) ms e

none_of : {A : Type 0} (o : Option A) → is_some o ≡ false → o ≡ None
none_of None e = refl
none_of (Some x) e = absurd (true≢false e)

-- the members of a body whose value is known
members_are : (r : Operation) (found : Result Operation ApiError) (b : List ℕ) (d : Data) → found ≡ Ok r
    → IsValueOf found b (Some d) → body_of r b ≡ option_and_then (fitting r) (as_object d)
unfolding body_of
members_are r found b d e h =
    let held : IsValueOf (Ok r) b (Some d) = subst (λ f. IsValueOf f b (Some d)) e h in
    ap (option_and_then (fitting r)) held.0

pub fits_value : (r : Operation) (found : Result Operation ApiError) (b : List ℕ) (d : Data) → found ≡ Ok r
    → IsValueOf found b (Some d) → is_some (option_and_then (fitting r) (as_object d)) ≡ true
    → (body_of r b ≡ as_object d) × IsSome (body_of r b)
fits_value r found b d e h fits =
    let are = members_are r found b d e h in
    (are ∙ fitting_is r (as_object d) fits, ap is_some are ∙ fits)

pub unfit_value : (r : Operation) (found : Result Operation ApiError) (b : List ℕ) (d : Data) → found ≡ Ok r
    → IsValueOf found b (Some d) → is_some (option_and_then (fitting r) (as_object d)) ≡ false → body_of r b ≡ None
unfit_value r found b d e h fits = members_are r found b d e h ∙ none_of _ fits

pub no_value : (r : Operation) (found : Result Operation ApiError) (b : List ℕ) → found ≡ Ok r
    → IsValueOf found b None → body_of r b ≡ None
unfolding body_of
no_value r found b e h =
    let held : IsValueOf (Ok r) b None = subst (λ f. IsValueOf f b None) e h in
    ap (option_and_then (fitting r)) held
