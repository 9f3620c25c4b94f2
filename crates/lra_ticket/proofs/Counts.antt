-- Sums over a list of views that changes at one place.
use Rattle.std.proofs.Common.{◌≡◌, ◌≢◌, ℕ, zero, suc, ◌+◌, ◌<◌, ◌≤◌, List, [], ◌∷◌, set, sym, refl, ap, arith}
use Rattle.std.specs.List.{sum_by}
use Rattle.std.proofs.lemmas.List.Sums.{sum_by-cons}
use mathlib.Core.Logic.{dite}
use mathlib.Core.Option.{some, some-injective, some-ne-none}
use native.Mathlib.Decide.{ℕ_discrete}
use lib.ListN.{get_elem?}

module _ {A : Type 0} (f : A → ℕ) where
  pub sum_by-at : (l : List A) (j : ℕ) (v w : A) → get_elem? l j ≡ some v → sum_by f (set l j w) + f v ≡ sum_by f l
      + f w
  sum_by-at [] j v w e = absurd (some-ne-none v (sym e))
  sum_by-at (x ∷ xs) zero v w e = omega (arith, ap f (some-injective x v e), sum_by-cons f x xs, sum_by-cons f w xs)
  sum_by-at (x ∷ xs) (suc j) v w e = omega (
    arith,
    sum_by-at xs j v w e,
    sum_by-cons f x xs,
    sum_by-cons f x (set xs j w),
  )

  pub term_le : (l : List A) (j : ℕ) (v : A) → get_elem? l j ≡ some v → f v ≤ sum_by f l
  term_le [] j v e = absurd (some-ne-none v (sym e))
  term_le (x ∷ xs) zero v e = omega (arith, ap f (some-injective x v e), sum_by-cons f x xs)
  term_le (x ∷ xs) (suc j) v e = omega (arith, term_le xs j v e, sum_by-cons f x xs)

  pub terms_le : (l : List A) (j k : ℕ) (v u : A) → k ≢ j → get_elem? l j ≡ some v → get_elem? l k ≡ some u → f v + f u
      ≤ sum_by f l
  terms_le [] j k v u n e d = absurd (some-ne-none v (sym e))
  terms_le (x ∷ xs) zero zero v u n e d = absurd (n refl)
  terms_le (x ∷ xs) zero (suc k) v u n e d = omega (
    arith,
    ap f (some-injective x v e),
    term_le xs k u d,
    sum_by-cons f x xs,
  )
  terms_le (x ∷ xs) (suc j) zero v u n e d = omega (
    arith,
    ap f (some-injective x u d),
    term_le xs j v e,
    sum_by-cons f x xs,
  )
  terms_le (x ∷ xs) (suc j) (suc k) v u n e d = omega (
    arith,
    terms_le xs j k v u (λ h. n (ap suc h)) e d,
    sum_by-cons f x xs,
  )

  -- a sum that is not 0 has a term that is not 0
  pub some_term : (l : List A) → 0 < sum_by f l → (j : ℕ) × (v : A) × (get_elem? l j ≡ some v) × (0 < f v)
  some_term [] h = absurd (omega arith)
  some_term (x ∷ xs) h = dite (ℕ_discrete (f x) 0)
      (λ none. let t = some_term xs (omega (arith, sum_by-cons f x xs)) in (suc t.0, t.1, t.2, t.3))
      (λ some-here. (zero, x, refl, omega arith))

  pub no_terms : (l : List A) → ((j : ℕ) (v : A) → get_elem? l j ≡ some v → f v ≡ 0) → sum_by f l ≡ 0
  no_terms l none = dite (ℕ_discrete (sum_by f l) 0) (λ e. e)
      (λ n. let t = some_term l (omega arith) in let z = none t.0 t.1 t.2 in let p = t.3 in absurd (omega arith))

module _ {A : Type 0} where
  -- changes at two places can be made in either order
  pub set-swap : (l : List A) (i j : ℕ) (a b : A) → i ≢ j → set (set l i a) j b ≡ set (set l j b) i a
  set-swap [] i j a b n = refl
  set-swap (x ∷ xs) zero zero a b n = absurd (n refl)
  set-swap (x ∷ xs) zero (suc j) a b n = refl
  set-swap (x ∷ xs) (suc i) zero a b n = refl
  set-swap (x ∷ xs) (suc i) (suc j) a b n = ap (λ (l : List A). x ∷ l) (set-swap xs i j a b (λ e. n (ap suc e)))
