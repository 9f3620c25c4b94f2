-- The last of what is found, and those before it.
use Rattle.std.proofs.Common.{◌≡◌, ℕ, List, [], ◌∷◌, ◌++◌, length, Option, None, Some, refl, sym, ap, ◌∙◌, arith}
use Rattle.std.specs.Prelude.{option_to_list}
use Rattle.lra_rotation.specs.Disks.{last_from, last_of, front_from, front_of}

last_push : (y : ℕ) (ys : List ℕ) (x : ℕ) → last_from y (ys ++ x ∷ []) ≡ x
last_push y [] x = refl
last_push y (z ∷ zs) x = last_push z zs x

front_push : (y : ℕ) (ys : List ℕ) (x : ℕ) → front_from y (ys ++ x ∷ []) ≡ y ∷ ys
front_push y [] x = refl
front_push y (z ∷ zs) x = ap (λ is. y ∷ is) (front_push z zs x)

last_is : (ys : List ℕ) (x : ℕ) → last_of (ys ++ x ∷ []) ≡ Some x
last_is [] x = refl
last_is (y ∷ ys) x = ap Some (last_push y ys x)

front_is : (ys : List ℕ) (x : ℕ) → front_of (ys ++ x ∷ []) ≡ ys
front_is [] x = refl
front_is (y ∷ ys) x = front_push y ys x

none_there : (ys : List ℕ) → length ys ≡ 0 → ys ≡ []
none_there [] e = refl
none_there (y ∷ ys) e = absurd (omega arith)

pub popped_last : (xs ys : List ℕ) (o : Option ℕ) → xs ≡ ys ++ option_to_list o → (o ≡ None → length ys ≡ 0)
    → last_of xs ≡ o
popped_last xs ys None e f = ap last_of e ∙ ap (λ is. last_of (is ++ [])) (none_there ys (f refl))
popped_last xs ys (Some x) e f = ap last_of e ∙ last_is ys x

pub popped_front : (xs ys : List ℕ) (o : Option ℕ) → xs ≡ ys ++ option_to_list o → (o ≡ None → length ys ≡ 0)
    → front_of xs ≡ ys
popped_front xs ys None e f = ap front_of e ∙ ap (λ is. front_of (is ++ [])) (none_there ys (f refl))
    ∙ sym (none_there ys (f refl))
popped_front xs ys (Some x) e f = ap front_of e ∙ front_is ys x
