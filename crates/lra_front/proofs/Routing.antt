-- The result of a search among operations.
use Rattle.std.proofs.Common.{◌≡◌, ℕ, ◌+◌, ◌<◌, Bool, false, List, ◌∷◌, length, drop, get_or, add-one, Option, refl}
use Rattle.std.proofs.Common.{sym, ◌∙◌, subst}
use Rattle.std.proofs.Math.Seq.{drop-cons}
use Rattle.std.specs.List.{find}
use Rattle.lra_front.specs.declared.operation.Operation.{Operation}

drop_first : {A : Type 0} (xs : List A) (i : ℕ) (d : A) → i < length xs → drop i xs ≡ get_or xs i d ∷ drop (i + 1) xs
drop_first xs i d h = rw add-one (drop-cons xs i d h)

passed : (f : Operation → Bool) (o : Operation) (os : List Operation) → f o ≡ false → find f (o ∷ os) ≡ find f os
passed f o os fails = rw fails refl

-- one operation that isn't the one
pub none_yet : (f : Operation → Bool) (os : List Operation) (i : ℕ) (d : Operation) (all : Option Operation) → i
    < length os → find f (drop i os) ≡ all
    → f (get_or os i d) ≡ false → find f (drop (i + 1) os) ≡ all
none_yet f os i d all h e fails =
    sym (passed f (get_or os i d) (drop (i + 1) os) fails) ∙ subst (λ (qs : List Operation). find f qs ≡ all)
    (drop_first os i d h) e
