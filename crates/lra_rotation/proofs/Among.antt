-- Numbers among others.
use Rattle.std.proofs.Common.{◌≡◌, ◌≢◌, ◌⊎◌, ℕ, ◌<◌, ◌≤◌, ◌==◌, Bool, true, false, ◌||◌, not, if◌then◌else◌, List, []}
use Rattle.std.proofs.Common.{◌∷◌, ◌++◌, inl, inr, refl, sym, ap, ◌∙◌, subst, arith}
use Rattle.std.proofs.lemmas.Bool.Decides.{eqb_tells}
use Rattle.lra_rotation.specs.Disks.{without, last_from, front_from}
use Rattle.lra_rotation.specs.Laws.{is_among, AllAbove}
use Rattle.lra_rotation.proofs.Orders.{AllBelow, or_cases, or_left, or_right}

or_assoc : (a b c : Bool) → (a || (b || c)) ≡ ((a || b) || c)
or_assoc true b c = refl
or_assoc false b c = refl

pub is_among-append : (i : ℕ) (xs ys : List ℕ) → is_among i (xs ++ ys) ≡ (is_among i xs || is_among i ys)
is_among-append i [] ys = refl
is_among-append i (x ∷ xs) ys = ap (λ b. (x == i) || b) (is_among-append i xs ys) ∙ or_assoc (x == i) (is_among i xs)
    (is_among i ys)

later : (i k x : ℕ) (xs : List ℕ) → i ≢ k → x ≡ k → is_among i (x ∷ xs) ≡ true → is_among i xs ≡ true
later i k x xs apart same h = elim (eqb_tells x i) [
  | inl p ↦ absurd (apart (sym p.1 ∙ same))
  | inr p ↦ sym (ap (λ b. b || is_among i xs) p.0) ∙ h
]

here : (i x : ℕ) (xs ys : List ℕ) → (is_among i xs ≡ true → is_among i ys ≡ true) → is_among i (x ∷ xs) ≡ true
    → is_among i (x ∷ ys) ≡ true
here i x xs ys rest h = elim (or_cases (x == i) (is_among i xs) h) [
  | inl p ↦ or_left (x == i) (is_among i ys) p
  | inr p ↦ or_right (x == i) (is_among i ys) (rest p)
]

pub is_among-without : (i k : ℕ) (xs : List ℕ) → i ≢ k → is_among i xs ≡ true → is_among i (without k xs) ≡ true
is_among-without i k [] apart h = h
is_among-without i k (x ∷ xs) apart h =
    let P : Bool → Type 0 = λ b. is_among i (if not b then x ∷ without k xs else without k xs) ≡ true in
    elim (eqb_tells x k) [
      | inl e ↦ subst P (sym e.0) (is_among-without i k xs apart (later i k x xs apart e.1 h))
      | inr e ↦ subst P (sym e.0) (here i x xs (without k xs) (λ p. is_among-without i k xs apart p) h)
    ]

pub same_tells : (i k : ℕ) → i ≡ k → (k == i) ≡ true
same_tells i k e = elim (eqb_tells k i) [ inl p ↦ p.0 | inr p ↦ absurd (p.1 (sym e)) ]

-- who is among some numbers is so where one is moved to the end
pub moved : (i k : ℕ) (xs : List ℕ) → is_among i xs ≡ true → is_among i (without k xs ++ k ∷ []) ≡ true
moved i k xs h = elim (eqb_tells i k) [
  | inl e ↦ is_among-append i (without k xs) (k ∷ []) ∙ or_right (is_among i (without k xs)) (is_among i (k ∷ []))
      (or_left (k == i) false (same_tells i k e.1))
  | inr e ↦ is_among-append i (without k xs) (k ∷ []) ∙ or_left (is_among i (without k xs)) (is_among i (k ∷ []))
      (is_among-without i k xs e.1 h)
]

-- and who is among others is so where one of them goes over to these
pub passed : (i k : ℕ) (xs ys : List ℕ) → (is_among i xs || is_among i ys) ≡ true
    → (is_among i (without k xs) || is_among i (without k ys ++ k ∷ [])) ≡ true
passed i k xs ys h = elim (or_cases (is_among i xs) (is_among i ys) h) [
  | inr e ↦ or_right (is_among i (without k xs)) (is_among i (without k ys ++ k ∷ [])) (moved i k ys e)
  | inl e ↦ (elim (eqb_tells i k) [
    | inl p ↦ or_right (is_among i (without k xs)) (is_among i (without k ys ++ k ∷ []))
        (is_among-append i (without k ys) (k ∷ []) ∙ or_right (is_among i (without k ys)) (is_among i (k ∷ []))
        (or_left (k == i) false (same_tells i k p.1)))
    | inr p ↦ or_left (is_among i (without k xs)) (is_among i (without k ys ++ k ∷ [])) (is_among-without i k xs p.1 e)
  ])
]

pub same_of : (x i : ℕ) → (x == i) ≡ true → x ≡ i
same_of x i e = elim (eqb_tells x i) [ inl p ↦ p.1 | inr p ↦ absurd (let no : false ≡ true = sym p.0 ∙ e in cc) ]

-- who is left is another, and was there
pub left_was : (i k : ℕ) (xs : List ℕ) → is_among i (without k xs) ≡ true → (i ≢ k) × (is_among i xs ≡ true)
left_was i k [] h = absurd (let h : false ≡ true = h in cc)
left_was i k (x ∷ xs) h =
    let P : Bool → Type 0 = λ b. is_among i (if not b then x ∷ without k xs else without k xs) ≡ true in
    elim (eqb_tells x k) [
      | inl e ↦ (let w = left_was i k xs (subst P e.0 h) in (w.0, or_right (x == i) (is_among i xs) w.1))
      | inr e ↦ other (λ q. left_was i k xs q) (subst P e.0 h) e.1
    ]
  where
    other : (is_among i (without k xs) ≡ true → (i ≢ k) × (is_among i xs ≡ true)) → is_among i (x ∷ without k xs) ≡ true
        → x ≢ k → (i ≢ k) × (is_among i (x ∷ xs) ≡ true)
    other rest p apart = elim (or_cases (x == i) (is_among i (without k xs)) p) [
      | inl e ↦ (λ s. apart (same_of x i e ∙ s), or_left (x == i) (is_among i xs) e)
      | inr e ↦ (let w = rest e in (w.0, or_right (x == i) (is_among i xs) w.1))
    ]

pub among_one : (x i : ℕ) → is_among i (x ∷ []) ≡ true → x ≡ i
among_one x i e = elim (or_cases (x == i) false e) [
  | inl p ↦ same_of x i p
  | inr p ↦ absurd (let p : false ≡ true = p in
      cc)
]

-- who is among some with one more is that one, or was there
pub pushed_was : (i k : ℕ) (xs : List ℕ) → is_among i (without k xs ++ k ∷ []) ≡ true → (k ≡ i) ⊎ (is_among i xs ≡ true)
pushed_was i k xs h =
    elim (or_cases (is_among i (without k xs)) (is_among i (k ∷ [])) (sym (is_among-append i (without k xs) (k ∷ []))
    ∙ h)) [
      | inl e ↦ inr (left_was i k xs e).1
      | inr e ↦ inl (among_one k i e)
    ]

pub pushed_is : (k : ℕ) (xs : List ℕ) → is_among k (without k xs ++ k ∷ []) ≡ true
pushed_is k xs = is_among-append k (without k xs) (k ∷ []) ∙ or_right (is_among k (without k xs)) (is_among k (k ∷ []))
    (or_left (k == k) false (same_tells k k refl))

-- a number isn't among those that are greater
pub not_same : (x i : ℕ) → x ≢ i → (x == i) ≡ false
not_same x i d = elim (eqb_tells x i) [ inl e ↦ absurd (d e.1) | inr e ↦ e.0 ]

pub not_above : (i : ℕ) (xs : List ℕ) → AllAbove i xs → is_among i xs ≡ false
not_above i [] h = refl
not_above i (x ∷ xs) h = ap (λ b. b || is_among i xs) (not_same x i (λ e. let lt = h.0 in omega arith))
    ∙ not_above i xs h.1

-- the last of some, and those before it, are among them
pub last_among : (x : ℕ) (xs : List ℕ) → is_among (last_from x xs) (x ∷ xs) ≡ true
last_among x [] = or_left (x == x) false (same_tells x x refl)
last_among x (y ∷ ys) = or_right (x == last_from y ys) (is_among (last_from y ys) (y ∷ ys)) (last_among y ys)

pub front_among : (i x : ℕ) (xs : List ℕ) → is_among i (front_from x xs) ≡ true → is_among i (x ∷ xs) ≡ true
front_among i x [] h = absurd (let h : false ≡ true = h in cc)
front_among i x (y ∷ ys) h = elim (or_cases (x == i) (is_among i (front_from y ys)) h) [
  | inl e ↦ or_left (x == i) (is_among i (y ∷ ys)) e
  | inr e ↦ or_right (x == i) (is_among i (y ∷ ys)) (front_among i y ys e)
]

-- and each is the last, or before it
pub last_or_front : (i x : ℕ) (xs : List ℕ) → is_among i (x ∷ xs) ≡ true → (is_among i (front_from x xs) ≡ true)
    ⊎ (last_from x xs ≡ i)
last_or_front i x [] h = inr (among_one x i h)
last_or_front i x (y ∷ ys) h = elim (or_cases (x == i) (is_among i (y ∷ ys)) h) [
  | inl e ↦ inl (or_left (x == i) (is_among i (front_from y ys)) e)
  | inr e ↦ (elim (last_or_front i y ys e) [
    | inl p ↦ inl (or_right (x == i) (is_among i (front_from y ys)) p)
    | inr p ↦ inr p
  ])
]

-- the last of what ascends is the greatest
pub last_most : (i x : ℕ) (xs : List ℕ) → AllBelow (last_from x xs) (front_from x xs) → is_among i (x ∷ xs) ≡ true
    → i ≤ last_from x xs
last_most i x xs below h = elim (last_or_front i x xs h) [
  | inl e ↦ (let lt = below_at i (last_from x xs) (front_from x xs) below e in omega arith)
  | inr e ↦ omega arith
]
  where
    below_at : (i n : ℕ) (ys : List ℕ) → AllBelow n ys → is_among i ys ≡ true → i < n
    below_at i n [] h e = absurd (let e : false ≡ true = e in cc)
    below_at i n (y ∷ ys) h e = elim (or_cases (y == i) (is_among i ys) e) [
      | inl p ↦ (let same = same_of y i p in let lt = h.0 in omega arith)
      | inr p ↦ below_at i n ys h.1 p
    ]
