-- What is found by its name.
use Rattle.std.proofs.Common.{◌≡◌, ℕ, Bool, true, false, cond, List, [], ◌∷◌, Option, Some, IfSome, find, bytes_eq}
use Rattle.std.proofs.Common.{refl}
use Rattle.std.proofs.lemmas.Slice.Eq.{bytes_eq-Decides}

first_found : {A : Type 0} (name : A → List ℕ) (a : A) (rest : Option A) (text : List ℕ) (same : Bool)
    → bytes_eq text (name a) ≡ same → IfSome rest (λ b. text ≡ name b)
    → IfSome (cond same (Some a) rest) (λ b. text ≡ name b)
first_found name a rest text true same others = (bytes_eq-Decides text (name a)).0 same
first_found name a rest text false same others = others

-- what is found has that name
pub found_by_name : {A : Type 0} (name : A → List ℕ) (values : List A) (text : List ℕ)
    → IfSome (find (λ a. bytes_eq text (name a)) values) (λ a. text ≡ name a)
found_by_name name [] text = tt
found_by_name name (a ∷ values) text = first_found name a (find (λ b. bytes_eq text (name b)) values) text
    (bytes_eq text (name a)) refl (found_by_name name values text)
