-- Numbers and journals in order.
use Rattle.std.proofs.Common.{◌≡◌, ℕ, ◌+◌, ◌<◌, ◌≤◌, ◌==◌, Bool, true, false, ◌&&◌, ◌||◌, not, if◌then◌else◌, List, []}
use Rattle.std.proofs.Common.{◌∷◌, ◌++◌, inl, inr, refl, sym, ap, ◌∙◌, subst, arith}
use Rattle.std.specs.Prelude.{nat_lt, ◌⊎◌}
use Rattle.std.proofs.lemmas.Bool.Decides.{eqb_tells, nat_tests}
use Rattle.lra_rotation.specs.declared.journal.RotationJournal.{RotationJournal}
use Rattle.lra_rotation.specs.declared.journal.Observation.{Observation}
use Rattle.lra_rotation.specs.declared.action.Change.{Change}
use Rattle.lra_rotation.specs.declared.action.Change.TheVariants as change
use Rattle.lra_rotation.specs.Deciding.{is_near_end}
use Rattle.lra_rotation.specs.Disks.{without, greatest, found, found_all, last_from, front_from, front_of}
use Rattle.lra_rotation.specs.Runs.{changed, changed_at, change_all, apart_from}
use Rattle.lra_rotation.specs.Laws.{AllAbove, Ascend, RowsBelow, has, some_is}

-- each of some numbers is less than one
abbrev pub AllBelow : ℕ → List ℕ → Type 0
AllBelow n [] = Unit {0}
AllBelow n (i ∷ is) = (i < n) × AllBelow n is

-- ---- numbers

pub below_mono : (m n : ℕ) (xs : List ℕ) → m ≤ n → AllBelow m xs → AllBelow n xs
below_mono m n [] le h = tt
below_mono m n (x ∷ xs) le h = (omega arith, below_mono m n xs le h.1)

pub below_append : (n : ℕ) (xs ys : List ℕ) → AllBelow n xs → AllBelow n ys → AllBelow n (xs ++ ys)
below_append n [] ys h k = k
below_append n (x ∷ xs) ys h k = (h.0, below_append n xs ys h.1 k)

pub below_without : (n i : ℕ) (xs : List ℕ) → AllBelow n xs → AllBelow n (without i xs)
below_without n i [] h = tt
below_without n i (x ∷ xs) h = elim (x == i) as (λ b. AllBelow n (if not b then x ∷ without i xs else without i xs)) [
  | true ↦ below_without n i xs h.1
  | false ↦ (h.0, below_without n i xs h.1)
]

-- without the greatest all are less
pub below_without_same : (i : ℕ) (xs : List ℕ) → AllBelow (i + 1) xs → AllBelow i (without i xs)
below_without_same i [] h = tt
below_without_same i (x ∷ xs) h =
    let P : Bool → Type 0 = λ b. AllBelow i (if not b then x ∷ without i xs else without i xs) in
    elim (eqb_tells x i) [
      | inl e ↦ subst P (sym e.0) (below_without_same i xs h.1)
      | inr e ↦ (let differs = e.1 in let below : x < i = omega arith in
          subst P (sym e.0) (below, below_without_same i xs h.1))
    ]

pub above_without : (n i : ℕ) (xs : List ℕ) → AllAbove n xs → AllAbove n (without i xs)
above_without n i [] h = tt
above_without n i (x ∷ xs) h = elim (x == i) as (λ b. AllAbove n (if not b then x ∷ without i xs else without i xs)) [
  | true ↦ above_without n i xs h.1
  | false ↦ (h.0, above_without n i xs h.1)
]

pub Ascend_without : (i : ℕ) (xs : List ℕ) → Ascend xs → Ascend (without i xs)
Ascend_without i [] h = tt
Ascend_without i (x ∷ xs) h = elim (x == i) as (λ b. Ascend (if not b then x ∷ without i xs else without i xs)) [
  | true ↦ Ascend_without i xs h.1
  | false ↦ (above_without x i xs h.0, Ascend_without i xs h.1)
]

above_push : (x i : ℕ) (xs : List ℕ) → AllAbove x xs → x < i → AllAbove x (xs ++ i ∷ [])
above_push x i [] h lt = (lt, tt)
above_push x i (y ∷ ys) h lt = (h.0, above_push x i ys h.1 lt)

pub Ascend_push : (i : ℕ) (xs : List ℕ) → Ascend xs → AllBelow i xs → Ascend (xs ++ i ∷ [])
Ascend_push i [] a b = (tt, tt)
Ascend_push i (x ∷ xs) a b = (above_push x i xs a.0 b.0, Ascend_push i xs a.1 b.1)

pub greatest_below : (n : ℕ) (xs : List ℕ) → AllBelow (n + 1) xs → greatest xs ≤ n
greatest_below n [] h = omega arith
greatest_below n (x ∷ xs) h = let rest = greatest_below n xs h.1 in omega arith

-- the last of what ascends is greater than what stands before it
last_above : (n y : ℕ) (ys : List ℕ) → n < y → AllAbove n ys → n < last_from y ys
last_above n y [] lt h = lt
last_above n y (z ∷ zs) lt h = last_above n z zs h.0 h.1

pub front_below : (x : ℕ) (xs : List ℕ) → AllAbove x xs → Ascend xs → AllBelow (last_from x xs) (front_from x xs)
front_below x [] a s = tt
front_below x (y ∷ ys) a s = (last_above x y ys a.0 a.1, front_below y ys s.0 s.1)

pub last_below : (n x : ℕ) (xs : List ℕ) → x < n → AllBelow n xs → last_from x xs < n
last_below n x [] lt h = lt
last_below n x (y ∷ ys) lt h = last_below n y ys h.0 h.1

-- ---- journals

pub rows_mono : (m n : ℕ) (js : List RotationJournal) → m ≤ n → RowsBelow m js → RowsBelow n js
rows_mono m n [] le h = tt
rows_mono m n (j ∷ js) le h = (omega arith, rows_mono m n js le h.1)

pub rows_append : (n : ℕ) (js ks : List RotationJournal) → RowsBelow n js → RowsBelow n ks → RowsBelow n (js ++ ks)
rows_append n [] ks h k = k
rows_append n (j ∷ js) ks h k = (h.0, rows_append n js ks h.1 k)

-- what changes keeps its instance
kept : (c : Change) (j : RotationJournal) → (changed c j).instance ≡ j.instance
kept change.Close j = refl
kept (change.Leave v) j = refl
kept change.Stay j = refl

pub same_instance : (c : Change) (i : ℕ) (j : RotationJournal) → (changed_at c i j).instance ≡ j.instance
same_instance c i j = elim (j.instance == i) as (λ b. (if b then changed c j else j).instance ≡ j.instance)
    [ true ↦ kept c j | false ↦ refl ]

pub below_change : (n : ℕ) (c : Change) (i : ℕ) (j : RotationJournal) → j.instance < n → (changed_at c i j).instance < n
below_change n c i j h = subst (λ (m : ℕ). m < n) (sym (same_instance c i j)) h

pub within_change : (n : ℕ) (c : Change) (i : ℕ) (j : RotationJournal) → j.instance ≤ n
    → (changed_at c i j).instance ≤ n
within_change n c i j h = subst (λ (m : ℕ). m ≤ n) (sym (same_instance c i j)) h

pub rows_change : (n : ℕ) (c : Change) (i : ℕ) (js : List RotationJournal) → RowsBelow n js
    → RowsBelow n (change_all c i js)
rows_change n c i [] h = tt
rows_change n c i (j ∷ js) h = (below_change n c i j h.0, rows_change n c i js h.1)

pub rows_apart : (n i : ℕ) (js : List RotationJournal) → RowsBelow n js → RowsBelow n (apart_from i js)
rows_apart n i [] h = tt
rows_apart n i (j ∷ js) h =
    elim (j.instance == i) as (λ b. RowsBelow n (if not b then j ∷ apart_from i js else apart_from i js)) [
      | true ↦ rows_apart n i js h.1
      | false ↦ (h.0, rows_apart n i js h.1)
    ]

pub rows_found : (n first : ℕ) (observations : List Observation) (is : List ℕ) → AllBelow n is
    → RowsBelow n (found_all first observations is)
rows_found n first observations [] h = tt
rows_found n first observations (i ∷ is) h = (h.0, rows_found n first observations is h.1)

-- who is there is less than what all are less than
pub has_below : (n i : ℕ) (js : List RotationJournal) → RowsBelow n js → has js i ≡ true → i < n
has_below n i [] h e = absurd (let e : false ≡ true = e in cc)
has_below n i (j ∷ js) h e = elim (eqb_tells j.instance i) [
  | inl k ↦ (let same = k.1 in omega arith)
  | inr k ↦ has_below n i js h.1 (sym (ap (λ b. b || has js i) k.0) ∙ e)
]

-- ---- what was retired

-- a journal below a number is closed
abbrev pub IsRetired : ℕ → RotationJournal → Type 0
IsRetired first j = j.instance < first → j.is_closed ≡ true

abbrev pub Retired : ℕ → List RotationJournal → Type 0
Retired first [] = Unit {0}
Retired first (j ∷ js) = IsRetired first j × Retired first js

pub retired_append : (n : ℕ) (js ks : List RotationJournal) → Retired n js → Retired n ks → Retired n (js ++ ks)
retired_append n [] ks h k = k
retired_append n (j ∷ js) ks h k = (h.0, retired_append n js ks h.1 k)

retired_one : (n : ℕ) (c : Change) (j : RotationJournal) → IsRetired n j → IsRetired n (changed c j)
retired_one n change.Close j h = λ _. refl
retired_one n (change.Leave v) j h = h
retired_one n change.Stay j h = h

pub retired_changed : (n : ℕ) (c : Change) (i : ℕ) (j : RotationJournal) → IsRetired n j
    → IsRetired n (changed_at c i j)
retired_changed n c i j h = elim (j.instance == i) as (λ b. IsRetired n (if b then changed c j else j))
    [ true ↦ retired_one n c j h | false ↦ h ]

pub retired_change : (n : ℕ) (c : Change) (i : ℕ) (js : List RotationJournal) → Retired n js
    → Retired n (change_all c i js)
retired_change n c i [] h = tt
retired_change n c i (j ∷ js) h = (retired_changed n c i j h.0, retired_change n c i js h.1)

pub retired_apart : (n i : ℕ) (js : List RotationJournal) → Retired n js → Retired n (apart_from i js)
retired_apart n i [] h = tt
retired_apart n i (j ∷ js) h =
    elim (j.instance == i) as (λ b. Retired n (if not b then j ∷ apart_from i js else apart_from i js)) [
      | true ↦ retired_apart n i js h.1
      | false ↦ (h.0, retired_apart n i js h.1)
    ]

or_true : (a b : Bool) → a ≡ true → (a || b) ≡ true
or_true a b e = ap (λ x. x || b) e

lt_tells : (i first : ℕ) → i < first → nat_lt i first ≡ true
lt_tells i first below = grind (arith, nat_tests)

pub found_retired : (first : ℕ) (observations : List Observation) (i : ℕ) → IsRetired first (found first observations i)
found_retired first observations i below = or_true (nat_lt i first) (is_near_end observations i)
    (lt_tells i first below)

pub retired_found : (first : ℕ) (observations : List Observation) (is : List ℕ)
    → Retired first (found_all first observations is)
retired_found first observations [] = tt
retired_found first observations (i ∷ is) = (found_retired first observations i, retired_found first observations is)

-- ---- journals that ascend

abbrev pub RowsAbove : ℕ → List RotationJournal → Type 0
RowsAbove n [] = Unit {0}
RowsAbove n (j ∷ js) = (n < j.instance) × RowsAbove n js

abbrev pub RowsAscend : List RotationJournal → Type 0
RowsAscend [] = Unit {0}
RowsAscend (j ∷ js) = RowsAbove j.instance js × RowsAscend js

rows_above_push : (x : ℕ) (n : RotationJournal) (js : List RotationJournal) → RowsAbove x js → x < n.instance
    → RowsAbove x (js ++ n ∷ [])
rows_above_push x n [] h lt = (lt, tt)
rows_above_push x n (j ∷ js) h lt = (h.0, rows_above_push x n js h.1 lt)

pub rows_ascend_push : (n : RotationJournal) (js : List RotationJournal) → RowsAscend js → RowsBelow n.instance js
    → RowsAscend (js ++ n ∷ [])
rows_ascend_push n [] h k = (tt, tt)
rows_ascend_push n (j ∷ js) h k = (rows_above_push j.instance n js h.0 k.0, rows_ascend_push n js h.1 k.1)

rows_above_change : (x : ℕ) (c : Change) (i : ℕ) (js : List RotationJournal) → RowsAbove x js
    → RowsAbove x (change_all c i js)
rows_above_change x c i [] h = tt
rows_above_change x c i (j ∷ js) h = (
  subst (λ (m : ℕ). x < m) (sym (same_instance c i j)) h.0,
  rows_above_change x c i js h.1,
)

pub rows_ascend_change : (c : Change) (i : ℕ) (js : List RotationJournal) → RowsAscend js
    → RowsAscend (change_all c i js)
rows_ascend_change c i [] h = tt
rows_ascend_change c i (j ∷ js) h = (
  subst (λ (m : ℕ). RowsAbove m (change_all c i js)) (sym (same_instance c i j))
      (rows_above_change j.instance c i js h.0),
  rows_ascend_change c i js h.1,
)

rows_above_apart : (x i : ℕ) (js : List RotationJournal) → RowsAbove x js → RowsAbove x (apart_from i js)
rows_above_apart x i [] h = tt
rows_above_apart x i (j ∷ js) h =
    elim (j.instance == i) as (λ b. RowsAbove x (if not b then j ∷ apart_from i js else apart_from i js)) [
      | true ↦ rows_above_apart x i js h.1
      | false ↦ (h.0, rows_above_apart x i js h.1)
    ]

pub rows_ascend_apart : (i : ℕ) (js : List RotationJournal) → RowsAscend js → RowsAscend (apart_from i js)
rows_ascend_apart i [] h = tt
rows_ascend_apart i (j ∷ js) h =
    elim (j.instance == i) as (λ b. RowsAscend (if not b then j ∷ apart_from i js else apart_from i js)) [
      | true ↦ rows_ascend_apart i js h.1
      | false ↦ (rows_above_apart j.instance i js h.0, rows_ascend_apart i js h.1)
    ]

rows_above_found : (n first : ℕ) (observations : List Observation) (is : List ℕ) → AllAbove n is
    → RowsAbove n (found_all first observations is)
rows_above_found n first observations [] h = tt
rows_above_found n first observations (i ∷ is) h = (h.0, rows_above_found n first observations is h.1)

pub rows_ascend_found : (first : ℕ) (observations : List Observation) (is : List ℕ) → Ascend is
    → RowsAscend (found_all first observations is)
rows_ascend_found first observations [] h = tt
rows_ascend_found first observations (i ∷ is) h = (
  rows_above_found i first observations is h.0,
  rows_ascend_found first observations is h.1,
)

above_front : (n x : ℕ) (xs : List ℕ) → n < x → AllAbove n xs → AllAbove n (front_from x xs)
above_front n x [] lt h = tt
above_front n x (y ∷ ys) lt h = (lt, above_front n y ys h.0 h.1)

ascend_from : (x : ℕ) (xs : List ℕ) → AllAbove x xs → Ascend xs → Ascend (front_from x xs)
ascend_from x [] a s = tt
ascend_from x (y ∷ ys) a s = (above_front x y ys a.0 a.1, ascend_from y ys s.0 s.1)

pub ascend_front : (xs : List ℕ) → Ascend xs → Ascend (front_of xs)
ascend_front [] h = tt
ascend_front (x ∷ xs) h = ascend_from x xs h.0 h.1

-- ---- those of one instance

abbrev pub Those : ℕ → (RotationJournal → Bool) → List RotationJournal → Type 0
Those i p [] = Unit {0}
Those i p (j ∷ js) = (j.instance ≡ i → p j ≡ true) × Those i p js

those_above : (i : ℕ) (p : RotationJournal → Bool) (js : List RotationJournal) → RowsAbove i js → Those i p js
those_above i p [] h = tt
those_above i p (j ∷ js) h = (λ e. absurd (let lt = h.0 in omega arith), those_above i p js h.1)

pub those_weaker : (i : ℕ) (p q : RotationJournal → Bool) (js : List RotationJournal)
    → ((j : RotationJournal) → p j ≡ true → q j ≡ true) → Those i p js → Those i q js
those_weaker i p q [] f h = tt
those_weaker i p q (j ∷ js) f h = (λ e. f j (h.0 e), those_weaker i p q js f h.1)

has_above : (n i : ℕ) (js : List RotationJournal) → RowsAbove n js → has js i ≡ true → n < i
has_above n i [] h e = absurd (let e : false ≡ true = e in cc)
has_above n i (j ∷ js) h e = elim (eqb_tells j.instance i) [
  | inl k ↦ (let same = k.1 in let lt = h.0 in omega arith)
  | inr k ↦ has_above n i js h.1 (sym (ap (λ b. b || has js i) k.0) ∙ e)
]

pub both : (a b : Bool) → (a && b) ≡ true → (a ≡ true) × (b ≡ true)
both true b h = (refl, h)
both false b h = absurd (let h : false ≡ true = h in cc)

pub or_cases : (a b : Bool) → (a || b) ≡ true → (a ≡ true) ⊎ (b ≡ true)
or_cases true b h = inl refl
or_cases false b h = inr h

pub or_left : (a b : Bool) → a ≡ true → (a || b) ≡ true
or_left a b e = ap (λ x. x || b) e

pub or_right : (a b : Bool) → b ≡ true → (a || b) ≡ true
or_right true b h = refl
or_right false b h = h

pub and_both : (a b : Bool) → a ≡ true → b ≡ true → (a && b) ≡ true
and_both a b e k = ap (λ x. x && b) e ∙ k

pub has_some : (p : RotationJournal → Bool) (js : List RotationJournal) (i : ℕ) → some_is p js i ≡ true
    → has js i ≡ true
has_some p [] i e = e
has_some p (j ∷ js) i e = elim (or_cases ((j.instance == i) && p j) (some_is p js i) e) [
  | inl k ↦ or_left (j.instance == i) (has js i) (both (j.instance == i) (p j) k).0
  | inr k ↦ or_right (j.instance == i) (has js i) (has_some p js i k)
]

-- where journals ascend, all of an instance pass a test that one passes
pub only : (p : RotationJournal → Bool) (js : List RotationJournal) (i : ℕ) → RowsAscend js → some_is p js i ≡ true
    → Those i p js
only p [] i h e = tt
only p (j ∷ js) i h e = elim (eqb_tells j.instance i) [
  | inl k ↦ (
    λ _. (elim (or_cases ((j.instance == i) && p j) (some_is p js i) e) [
      | inl m ↦ (both (j.instance == i) (p j) m).1
      | inr m ↦ absurd (let lt = has_above j.instance i js h.0 (has_some p js i m) in let same = k.1 in omega arith)
    ]),
    those_above i p js (subst (λ (m : ℕ). RowsAbove m js) k.1 h.0),
  )
  | inr k ↦ (λ same. absurd (k.1 same), only p js i h.1 (sym (ap (λ b. (b && p j) || some_is p js i) k.0) ∙ e))
]

-- and what a test tells of an instance
pub some_at : (p : RotationJournal → Bool) (q : ℕ → Bool) (js : List RotationJournal) (i : ℕ)
    → ((j : RotationJournal) → p j ≡ true → q j.instance ≡ true) → some_is p js i ≡ true → q i ≡ true
some_at p q [] i f e = absurd (let e : false ≡ true = e in cc)
some_at p q (j ∷ js) i f e = elim (or_cases ((j.instance == i) && p j) (some_is p js i) e) [
  | inl m ↦ (elim (eqb_tells j.instance i) [
    | inl k ↦ subst (λ (n : ℕ). q n ≡ true) k.1 (f j (both (j.instance == i) (p j) m).1)
    | inr k ↦ absurd (let no : false ≡ true = sym k.0 ∙ (both (j.instance == i) (p j) m).0 in cc)
  ])
  | inr m ↦ some_at p q js i f m
]

pub some_weaker_is : (p q : RotationJournal → Bool) (js : List RotationJournal) (i : ℕ)
    → ((j : RotationJournal) → p j ≡ true → q j ≡ true) → some_is p js i ≡ true → some_is q js i ≡ true
some_weaker_is p q [] i f e = e
some_weaker_is p q (j ∷ js) i f e = elim (or_cases ((j.instance == i) && p j) (some_is p js i) e) [
  | inl m ↦ or_left ((j.instance == i) && q j) (some_is q js i)
      (and_both (j.instance == i) (q j) (both (j.instance == i) (p j) m).0 (f j (both (j.instance == i) (p j) m).1))
  | inr m ↦ or_right ((j.instance == i) && q j) (some_is q js i) (some_weaker_is p q js i f m)
]
