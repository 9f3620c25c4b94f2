-- The result of a search among operations.
use Rattle.std.proofs.Common.{◌≡◌, ℕ, ◌+◌, ◌<◌, ◌≤◌, Bool, true, false, List, ◌∷◌, length, drop, get_or, add-one}
use Rattle.std.proofs.Common.{Option, Some, None, refl, sym, ◌∙◌, subst}
use Rattle.std.proofs.lemmas.List.{at_drop_all}
use Rattle.std.proofs.Math.Seq.{drop-cons}
use Rattle.std.specs.List.{find}
use Rattle.lra_narayana.specs.declared.operation.DialectOperation.{DialectOperation}

drop_first : {A : Type 0} (xs : List A) (i : ℕ) (d : A) → i < length xs → drop i xs ≡ get_or xs i d ∷ drop (i + 1) xs
drop_first xs i d h = rw add-one (drop-cons xs i d h)

passed : (f : DialectOperation → Bool) (o : DialectOperation) (os : List DialectOperation) → f o ≡ false
    → find f (o ∷ os) ≡ find f os
passed f o os fails = rw fails refl

-- one operation that isn't the one
pub none_yet : (f : DialectOperation → Bool) (os : List DialectOperation) (i : ℕ) (d : DialectOperation)
    (all : Option DialectOperation) → i < length os → find f (drop i os) ≡ all
    → f (get_or os i d) ≡ false → find f (drop (i + 1) os) ≡ all
none_yet f os i d all h e fails =
    sym (passed f (get_or os i d) (drop (i + 1) os) fails) ∙ subst (λ (qs : List DialectOperation). find f qs ≡ all)
    (drop_first os i d h) e

first : (f : DialectOperation → Bool) (o : DialectOperation) (os : List DialectOperation) → f o ≡ true
    → find f (o ∷ os) ≡ Some o
first f o os holds = rw holds refl

-- the first operation that is the one
pub found : (f : DialectOperation → Bool) (os : List DialectOperation) (i : ℕ) (d : DialectOperation)
    (all : Option DialectOperation) → i < length os → find f (drop i os) ≡ all
    → f (get_or os i d) ≡ true → Some (get_or os i d) ≡ all
found f os i d all h e holds =
    sym (first f (get_or os i d) (drop (i + 1) os) holds) ∙ subst (λ (qs : List DialectOperation). find f qs ≡ all)
    (drop_first os i d h) e

-- no operation that is the one
pub none_left : (f : DialectOperation → Bool) (os : List DialectOperation) (i : ℕ) (all : Option DialectOperation)
    → length os ≤ i → find f (drop i os) ≡ all → None ≡ all
none_left f os i all h e = sym (at_drop_all (find f) os i h) ∙ e
