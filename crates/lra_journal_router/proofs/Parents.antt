-- The parent that a body names.
use Rattle.std.proofs.Common.{◌≡◌, ℕ, List, Some, None, option_and_then, Result, Ok, refl, sym, ap, subst}
use Rattle.std.specs.Prelude.{codes}
use Rattle.serde_json.specs.Data.{Data, null, boolean, number, string, array, object}
use Rattle.serde_json.specs.Find.{get, as_str, as_object}
use Rattle.lra_ids.specs.Bearing.{instance_at_end}
use Rattle.lra_front.specs.declared.operation.Operation.{Operation}
use Rattle.lra_front.specs.declared.operation.Operation.TheVariants as operation
use Rattle.lra_front.specs.declared.api_error.ApiError.{ApiError}
use Rattle.lra_front.specs.Bodies.{IsValueOf}
use Rattle.lra_journal_router.specs.Naming.{parent_of, parent_in}

-- the parent's instance in a body, step by step
pub parent_found : (d : Data) → option_and_then instance_at_end (option_and_then as_str (get (codes "parent") d))
    ≡ parent_of (as_object d)
parent_found null = refl
parent_found (boolean b) = refl
parent_found (number n) = refl
parent_found (string s) = refl
parent_found (array ds) = refl
parent_found (object ms) = refl

-- what was read of the body of a start
pub held_parent : (found : Result Operation ApiError) (body : List ℕ) (d : Data) → found ≡ Ok operation.Start
    → IsValueOf found body (Some d) → parent_of (as_object d) ≡ parent_in body
unfolding parent_in
held_parent found body d e h =
    let held : IsValueOf (Ok operation.Start) body (Some d) = subst (λ f. IsValueOf f body (Some d)) e h in
    ap parent_of (sym held.0)

pub no_parent : (found : Result Operation ApiError) (body : List ℕ) → found ≡ Ok operation.Start
    → IsValueOf found body None → None ≡ parent_in body
unfolding parent_in
no_parent found body e h =
    let held : IsValueOf (Ok operation.Start) body None = subst (λ f. IsValueOf f body None) e h in
    ap parent_of (sym held)
