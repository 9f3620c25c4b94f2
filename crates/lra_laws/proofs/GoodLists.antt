-- Tests of all or some of a list of numbers, by what is among them.
use Rattle.std.proofs.Common.{◌≡◌, ℕ, Bool, true, false, List, [], ◌∷◌, Option, Some, None, refl, sym, ap, ◌∙◌, cond}
use Rattle.std.proofs.Common.{eqb-true, eq-eqb}
use Rattle.std.specs.Prelude.{◌==◌, ◌&&◌, ◌||◌, filter}
use Rattle.std.specs.List.{list_all, list_any, find}
use Rattle.std.proofs.Math.Bool.{and-false, or-true}
use Rattle.lra_model.specs.History.{is_among}

-- the first is among them
pub among_here : (n : ℕ) (ns : List ℕ) → is_among (n ∷ ns) n ≡ true
among_here n ns = ap (λ (b : Bool). b || is_among ns n) (eq-eqb n n refl)

-- what is among the rest is among them
pub among_there : (n : ℕ) (ns : List ℕ) (m : ℕ) → is_among ns m ≡ true → is_among (n ∷ ns) m ≡ true
among_there n ns m h = ap (λ (b : Bool). (n == m) || b) h ∙ or-true (n == m)

-- tests that agree on what is among them agree on all and on some of them
pub list_all_same : (f g : ℕ → Bool) (xs : List ℕ) → ((n : ℕ) → is_among xs n ≡ true → f n ≡ g n) → list_all f xs
    ≡ list_all g xs
list_all_same f g [] h = refl
list_all_same f g (x ∷ xs) h = ap (λ (b : Bool). b && list_all f xs) (h x (among_here x xs))
    ∙ ap (λ (b : Bool). g x && b) (list_all_same f g xs (λ n k. h n (among_there x xs n k)))

pub list_any_same : (f g : ℕ → Bool) (xs : List ℕ) → ((n : ℕ) → is_among xs n ≡ true → f n ≡ g n) → list_any f xs
    ≡ list_any g xs
list_any_same f g [] h = refl
list_any_same f g (x ∷ xs) h = ap (λ (b : Bool). b || list_any f xs) (h x (among_here x xs))
    ∙ ap (λ (b : Bool). g x || b) (list_any_same f g xs (λ n k. h n (among_there x xs n k)))

pub filter_same : (f g : ℕ → Bool) (xs : List ℕ) → ((n : ℕ) → is_among xs n ≡ true → f n ≡ g n) → filter f xs
    ≡ filter g xs
filter_same f g [] h = refl
filter_same f g (x ∷ xs) h = ap (λ (b : Bool). cond b (x ∷ filter f xs) (filter f xs)) (h x (among_here x xs))
    ∙ ap (λ (ys : List ℕ). cond (g x) (x ∷ ys) ys) (filter_same f g xs (λ n k. h n (among_there x xs n k)))

-- what passes for all passes for one among them
pub passes_at : (f : ℕ → Bool) (xs : List ℕ) (n : ℕ) → list_all f xs ≡ true → is_among xs n ≡ true → f n ≡ true
passes_at f [] n h k = absurd cc
passes_at f (x ∷ xs) n h k = either (x == n) refl (f x) refl h k (passes_at f xs n)
  where
    either : (b : Bool) → (x == n) ≡ b → (c : Bool) → f x ≡ c → (c && list_all f xs) ≡ true → (b || is_among xs n)
        ≡ true → (list_all f xs ≡ true → is_among xs n ≡ true → f n ≡ true) → f n ≡ true
    either true e true g i j rest = ap f (sym (eqb-true x n e)) ∙ g
    either false e true g i j rest = rest i j
    either b e false g i j rest = absurd cc

-- where not all pass, one among them doesn't
pub fails_at : (f : ℕ → Bool) (xs : List ℕ) → list_all f xs ≡ false → (n : ℕ) × (is_among xs n ≡ true) × (f n ≡ false)
fails_at f [] h = absurd cc
fails_at f (x ∷ xs) h = either (f x) refl h (fails_at f xs)
  where
    either : (b : Bool) → f x ≡ b → (b && list_all f xs) ≡ false → (list_all f xs ≡ false → (n : ℕ)
        × (is_among xs n ≡ true) × (f n ≡ false)) → (n : ℕ) × (is_among (x ∷ xs) n ≡ true) × (f n ≡ false)
    either false g i rest = (x, among_here x xs, g)
    either true g i rest = let r = rest i in (r.0, among_there x xs r.0 r.1, r.2)

-- where some pass, one among them does
pub found_at : (f : ℕ → Bool) (xs : List ℕ) → list_any f xs ≡ true → (n : ℕ) × (is_among xs n ≡ true) × (f n ≡ true)
found_at f [] h = absurd cc
found_at f (x ∷ xs) h = either (f x) refl h (found_at f xs)
  where
    either : (b : Bool) → f x ≡ b → (b || list_any f xs) ≡ true → (list_any f xs ≡ true → (n : ℕ)
        × (is_among xs n ≡ true) × (f n ≡ true)) → (n : ℕ) × (is_among (x ∷ xs) n ≡ true) × (f n ≡ true)
    either true g i rest = (x, among_here x xs, g)
    either false g i rest = let r = rest i in (r.0, among_there x xs r.0 r.1, r.2)

-- where none passes, one among them doesn't
pub none_at : (f : ℕ → Bool) (xs : List ℕ) (n : ℕ) → list_any f xs ≡ false → is_among xs n ≡ true → f n ≡ false
none_at f [] n h k = absurd cc
none_at f (x ∷ xs) n h k = either (x == n) refl (f x) refl h k (none_at f xs n)
  where
    either : (b : Bool) → (x == n) ≡ b → (c : Bool) → f x ≡ c → (c || list_any f xs) ≡ false → (b || is_among xs n)
        ≡ true → (list_any f xs ≡ false → is_among xs n ≡ true → f n ≡ false) → f n ≡ false
    either true e false g i j rest = ap f (sym (eqb-true x n e)) ∙ g
    either false e false g i j rest = rest i j
    either b e true g i j rest = absurd cc

-- what is among the chosen is among all, and passes; and the other way round
pub among_filter : (f : ℕ → Bool) (xs : List ℕ) (n : ℕ) → is_among (filter f xs) n ≡ (is_among xs n && f n)
among_filter f [] n = refl
among_filter f (x ∷ xs) n = either (x == n) refl (f x) refl (among_filter f xs n)
  where
    either : (b : Bool) → (x == n) ≡ b → (c : Bool) → f x ≡ c → is_among (filter f xs) n ≡ (is_among xs n && f n)
        → is_among (cond c (x ∷ filter f xs) (filter f xs)) n ≡ ((b || is_among xs n) && f n)
    either true e true g i = ap (λ (b : Bool). b || is_among (filter f xs) n) e ∙ sym (ap f (sym (eqb-true x n e)) ∙ g)
    either false e true g i = ap (λ (b : Bool). b || is_among (filter f xs) n) e ∙ i
    either true e false g i = let fails = ap f (sym (eqb-true x n e)) ∙ g in
        i ∙ ap (λ (b : Bool). is_among xs n && b) fails ∙ and-false (is_among xs n) ∙ sym fails
    either false e false g i = i

-- where none is found, none among them passes
pub find_nothing : (f : ℕ → Bool) (ns : List ℕ) (n : ℕ) → find f ns ≡ None → is_among ns n ≡ true → f n ≡ false
find_nothing f [] n h k = absurd cc
find_nothing f (x ∷ ns) n h k = either (f x) refl (x == n) refl h k (find_nothing f ns n)
  where
    either : (c : Bool) → f x ≡ c → (b : Bool) → (x == n) ≡ b → cond c (Some x) (find f ns) ≡ None
        → (b || is_among ns n) ≡ true → (find f ns ≡ None → is_among ns n ≡ true → f n ≡ false) → f n ≡ false
    either true g b e i j rest = absurd cc
    either false g true e i j rest = ap f (sym (eqb-true x n e)) ∙ g
    either false g false e i j rest = rest i j

-- tests that agree on what is among them find the same
pub find_same : (f g : ℕ → Bool) (xs : List ℕ) → ((n : ℕ) → is_among xs n ≡ true → f n ≡ g n) → find f xs ≡ find g xs
find_same f g [] h = refl
find_same f g (x ∷ xs) h = ap (λ (b : Bool). cond b (Some x) (find f xs)) (h x (among_here x xs))
    ∙ ap (λ (o : Option ℕ). cond (g x) (Some x) o) (find_same f g xs (λ n k. h n (among_there x xs n k)))
