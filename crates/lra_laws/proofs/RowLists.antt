-- Lists of rows by number, and counts over them.
use Rattle.std.proofs.Common.{◌≡◌, ℕ, zero, suc, ◌+◌, ◌<◌, ◌≤◌, Bool, true, false, List, [], ◌∷◌, ◌++◌, length, map}
use Rattle.std.proofs.Common.{Option, Some, None, refl, sym, ap, ◌∙◌, cond, arith, eqb-true, eq-eqb, inl, inr, ◌⊎◌}
use Rattle.std.proofs.lemmas.Bool.{eqb-false, ne_eqb, cases_lt}
use Rattle.std.specs.Prelude.{◌==◌, ◌&&◌, ◌||◌, not, filter, count_by, slice_get, slice_set}
use Rattle.std.specs.Option.{option_map_or}
use Rattle.std.specs.List.{list_all, list_any, range_with_len}
use Rattle.std.proofs.lemmas.List.Sums.{sum_by-cons, sum_by_push}
use Rattle.lra_model.specs.History.{is_among}
use Rattle.std.proofs.lemmas.List.{map_push}
use Rattle.lra_laws.proofs.GoodLists.{among_here, among_there}
use Rattle.lra_laws.proofs.Legal.{IsNumbered, numbered_among, numbered_there}
use Rattle.lra_laws.specs.Rows.{row_at, change_row, recount, one}

-- ---- tests

pub eqb_self : (n : ℕ) → (n == n) ≡ true
eqb_self n = eq-eqb n n refl

-- two numbers that differ, whichever comes first
pub eqb_flip : (a b : ℕ) → (a == b) ≡ false → (b == a) ≡ false
eqb_flip a b h = ne_eqb b a (λ e. eqb-false a b h (sym e))

-- ---- what is among numbers

-- one that is among them and one that isn't differ
pub among_apart : (ns : List ℕ) (q p : ℕ) → is_among ns q ≡ true → is_among ns p ≡ false → (p == q) ≡ false
among_apart ns q p h k = decide (p == q) refl
  where
    decide : (b : Bool) → (p == q) ≡ b → b ≡ false
    decide false e = refl
    decide true e = let g : p ≡ q = eqb-true p q e in let x : is_among ns p ≡ true = ap (is_among ns) g ∙ h in absurd cc

pub map_within : {Y : Type 0} (f g : ℕ → Y) (ns : List ℕ) → ((n : ℕ) → is_among ns n ≡ true → f n ≡ g n) → map f ns
    ≡ map g ns
map_within f g [] h = refl
map_within f g (n ∷ ns) h = two (h n (among_here n ns)) (map_within f g ns (λ m k. h m (among_there n ns m k)))
  where
    two : f n ≡ g n → map f ns ≡ map g ns → f n ∷ map f ns ≡ g n ∷ map g ns
    two e k = cc

-- ---- counts

pub count_cons : {X : Type 0} (f : X → Bool) (x : X) (xs : List X) → count_by f (x ∷ xs) ≡ one (f x) + count_by f xs
count_cons f x xs = sum_by-cons (λ y. cond (f y) 1 0) x xs

pub count_push : {X : Type 0} (f : X → Bool) (xs : List X) (x : X) → count_by f (xs ++ x ∷ []) ≡ count_by f xs
    + one (f x)
count_push f xs x = sum_by_push (λ y. cond (f y) 1 0) xs x

pub count_within : (f g : ℕ → Bool) (ns : List ℕ) → ((n : ℕ) → is_among ns n ≡ true → f n ≡ g n) → count_by f ns
    ≡ count_by g ns
count_within f g [] h = refl
count_within f g (n ∷ ns) h = count_cons f n ns ∙ two (h n (among_here n ns))
    (count_within f g ns (λ m k. h m (among_there n ns m k))) ∙ sym (count_cons g n ns)
  where
    two : f n ≡ g n → count_by f ns ≡ count_by g ns → one (f n) + count_by f ns ≡ one (g n) + count_by g ns
    two e k = cc

pub count_filter : (s f : ℕ → Bool) (ns : List ℕ) → count_by f (filter s ns) ≡ count_by (λ n. s n && f n) ns
count_filter s f [] = refl
count_filter s f (n ∷ ns) = either (s n) (count_filter s f ns) ∙ sym (count_cons (λ m. s m && f m) n ns)
  where
    either : (b : Bool) → count_by f (filter s ns) ≡ count_by (λ m. s m && f m) ns
        → count_by f (cond b (n ∷ filter s ns) (filter s ns)) ≡ one (b && f n) + count_by (λ m. s m && f m) ns
    either true h = count_cons f n (filter s ns) ∙ ap (λ (k : ℕ). one (f n) + k) h
    either false h = omega arith

pub count_none : {X : Type 0} (f : X → Bool) (xs : List X) → ((x : X) → f x ≡ false) → count_by f xs ≡ 0
count_none f [] h = refl
count_none f (x ∷ xs) h = count_cons f x xs ∙ ap (λ (b : Bool). one b + count_by f xs) (h x)
    ∙ (let k : count_by f xs ≡ 0 = count_none f xs h in omega arith)

not_zero : (n : ℕ) → false ≡ (1 + n == 0)
not_zero n = sym (ne_eqb (1 + n) 0 (λ e. omega arith))

-- all pass exactly where the count of those that don't is 0
pub all_by_count : {X : Type 0} (f g : X → Bool) (xs : List X) → ((x : X) → g x ≡ not (f x)) → list_all f xs
    ≡ (count_by g xs == 0)
all_by_count f g [] h = refl
all_by_count f g (x ∷ xs) h = either (f x) refl (all_by_count f g xs h)
  where
    either : (b : Bool) → f x ≡ b → list_all f xs ≡ (count_by g xs == 0) → (b && list_all f xs)
        ≡ (count_by g (x ∷ xs) == 0)
    either true e rest =
        let k : count_by g (x ∷ xs) ≡ count_by g xs = count_cons g x xs
        ∙ ap (λ (b : Bool). one b + count_by g xs) (h x ∙ ap not e) ∙ omega arith in
        rest ∙ ap (λ (n : ℕ). n == 0) (sym k)
    either false e rest =
        let k : count_by g (x ∷ xs) ≡ 1 + count_by g xs = count_cons g x xs
        ∙ ap (λ (b : Bool). one b + count_by g xs) (h x ∙ ap not e) in
        not_zero (count_by g xs) ∙ ap (λ (n : ℕ). n == 0) (sym k)

pub none_by_count : {X : Type 0} (f : X → Bool) (xs : List X) → not (list_any f xs) ≡ (count_by f xs == 0)
none_by_count f [] = refl
none_by_count f (x ∷ xs) = either (f x) refl (none_by_count f xs)
  where
    either : (b : Bool) → f x ≡ b → not (list_any f xs) ≡ (count_by f xs == 0) → not (b || list_any f xs)
        ≡ (count_by f (x ∷ xs) == 0)
    either true e rest =
        let k : count_by f (x ∷ xs) ≡ 1 + count_by f xs = count_cons f x xs
        ∙ ap (λ (b : Bool). one b + count_by f xs) e in
        not_zero (count_by f xs) ∙ ap (λ (n : ℕ). n == 0) (sym k)
    either false e rest =
        let k : count_by f (x ∷ xs) ≡ count_by f xs = count_cons f x xs ∙ ap (λ (b : Bool). one b + count_by f xs) e
        ∙ omega arith in
        rest ∙ ap (λ (n : ℕ). n == 0) (sym k)

-- ---- rows of the numbers from a on

range_row : {R : Type 0} (g : ℕ → R) (a n i p : ℕ) → i < n → p ≡ a + i → slice_get (map g (range_with_len a n)) i
    ≡ Some (g p)
range_row g a zero i p h e = absurd (omega arith)
range_row {R = R} g a (suc n) zero p h e = ap (λ (m : ℕ). some (g m)) (let k : a ≡ p = omega arith in k)
  where
    some : R → Option R
    some r = Some r
range_row g a (suc n) (suc i) p h e = range_row g (a + 1) n i p (omega arith) (omega arith)

range_row_past : {R : Type 0} (g : ℕ → R) (a n i : ℕ) → n ≤ i → slice_get (map g (range_with_len a n)) i ≡ None
range_row_past g a zero i h = refl
range_row_past g a (suc n) zero h = absurd (omega arith)
range_row_past g a (suc n) (suc i) h = range_row_past g (a + 1) n i (omega arith)

range_change : {R : Type 0} (g k : ℕ → R) (a n i p : ℕ) → i < n → p ≡ a + i
    → ((q : ℕ) → a ≤ q → q < a + n → (p == q) ≡ false → k q ≡ g q)
    → map k (range_with_len a n) ≡ slice_set (map g (range_with_len a n)) i (k p)
range_change g k a zero i p h e same = absurd (omega arith)
range_change {R = R} g k a (suc n) zero p h e same =
    two (ap k (let x : a ≡ p = omega arith in x))
    (rest (a + 1) n (λ q low high. same q (omega arith) (omega arith) (ne_eqb p q (λ x. omega arith))))
  where
    two : k a ≡ k p → map k (range_with_len (a + 1) n) ≡ map g (range_with_len (a + 1) n)
        → map k (range_with_len a (suc n)) ≡ k p ∷ map g (range_with_len (a + 1) n)
    two x y = cc

    rest : (b m : ℕ) → ((q : ℕ) → b ≤ q → q < b + m → k q ≡ g q) → map k (range_with_len b m)
        ≡ map g (range_with_len b m)
    rest b zero all = refl
    rest b (suc m) all = pair (all b (omega arith) (omega arith)) (rest (b + 1) m
        (λ q low high. all q (omega arith) (omega arith)))
      where
        pair : k b ≡ g b → map k (range_with_len (b + 1) m) ≡ map g (range_with_len (b + 1) m) → k b
            ∷ map k (range_with_len (b + 1) m) ≡ g b ∷ map g (range_with_len (b + 1) m)
        pair x y = cc
range_change g k a (suc n) (suc i) p h e same =
    two (same a (omega arith) (omega arith) (ne_eqb p a (λ x. omega arith)))
    (range_change g k (a + 1) n i p (omega arith) (omega arith) (λ q low high d. same q (omega arith) (omega arith)
    d))
  where
    two : k a ≡ g a → map k (range_with_len (a + 1) n) ≡ slice_set (map g (range_with_len (a + 1) n)) i (k p) → k a
        ∷ map k (range_with_len (a + 1) n) ≡ g a ∷ slice_set (map g (range_with_len (a + 1) n)) i (k p)
    two x y = cc

range_count : (f g : ℕ → Bool) (a n i p : ℕ) → i < n → p ≡ a + i
    → ((q : ℕ) → a ≤ q → q < a + n → (p == q) ≡ false → g q ≡ f q)
    → count_by g (range_with_len a n) + one (f p) ≡ count_by f (range_with_len a n) + one (g p)
range_count f g a zero i p h e same = absurd (omega arith)
range_count f g a (suc n) zero p h e same =
    let x : a ≡ p = omega arith in
    two (ap f x) (ap g x) (count_cons f a (range_with_len (a + 1) n)) (count_cons g a (range_with_len (a + 1) n))
    (rest (a + 1) n (λ q low high. same q (omega arith) (omega arith) (ne_eqb p q (λ y. omega arith))))
  where
    two : f a ≡ f p → g a ≡ g p → count_by f (range_with_len a (suc n)) ≡ one (f a)
        + count_by f (range_with_len (a + 1) n) → count_by g (range_with_len a (suc n)) ≡ one (g a)
        + count_by g (range_with_len (a + 1) n)
        → count_by g (range_with_len (a + 1) n) ≡ count_by f (range_with_len (a + 1) n)
        → count_by g (range_with_len a (suc n)) + one (f p) ≡ count_by f (range_with_len a (suc n)) + one (g p)
    two x y fa ga r =
        let u : one (f a) ≡ one (f p) = ap one x in
        let v : one (g a) ≡ one (g p) = ap one y in
        omega arith

    rest : (b m : ℕ) → ((q : ℕ) → b ≤ q → q < b + m → g q ≡ f q) → count_by g (range_with_len b m)
        ≡ count_by f (range_with_len b m)
    rest b zero all = refl
    rest b (suc m) all = count_cons g b (range_with_len (b + 1) m) ∙ pair (all b (omega arith) (omega arith))
        (rest (b + 1) m (λ q low high. all q (omega arith) (omega arith)))
        ∙ sym (count_cons f b (range_with_len (b + 1) m))
      where
        pair : g b ≡ f b → count_by g (range_with_len (b + 1) m) ≡ count_by f (range_with_len (b + 1) m) → one (g b)
            + count_by g (range_with_len (b + 1) m) ≡ one (f b) + count_by f (range_with_len (b + 1) m)
        pair x y = cc
range_count f g a (suc n) (suc i) p h e same =
    two (same a (omega arith) (omega arith) (ne_eqb p a (λ y. omega arith))) (count_cons f a (range_with_len (a + 1) n))
    (count_cons g a (range_with_len (a + 1) n))
    (range_count f g (a + 1) n i p (omega arith) (omega arith) (λ q low high d. same q (omega arith) (omega arith) d))
  where
    two : g a ≡ f a → count_by f (range_with_len a (suc n)) ≡ one (f a) + count_by f (range_with_len (a + 1) n)
        → count_by g (range_with_len a (suc n)) ≡ one (g a) + count_by g (range_with_len (a + 1) n)
        → count_by g (range_with_len (a + 1) n) + one (f p) ≡ count_by f (range_with_len (a + 1) n) + one (g p)
        → count_by g (range_with_len a (suc n)) + one (f p) ≡ count_by f (range_with_len a (suc n)) + one (g p)
    two x fa ga r = let u : one (g a) ≡ one (f a) = ap one x in omega arith

-- ---- rows of numbered lists

-- the row of a number that is there
pub row_there : {R : Type 0} (g : ℕ → R) (ns : List ℕ) (p : ℕ) → IsNumbered ns → is_among ns p ≡ true
    → row_at (map g ns) p ≡ Some (g p)
row_there g ns zero h k = absurd (let x = numbered_among ns h 0 k in omega arith)
row_there {R = R} g ns (suc i) h k =
    let x = numbered_among ns h (suc i) k in
    ap (λ (ms : List ℕ). slice_get (map g ms) i) h ∙ range_row g 1 (length ns) i (suc i) (omega arith) (omega arith)

-- there is none of one that isn't
pub row_absent : {R : Type 0} (g : ℕ → R) (ns : List ℕ) (p : ℕ) → IsNumbered ns → is_among ns p ≡ false
    → row_at (map g ns) p ≡ None
row_absent g ns zero h k = refl
row_absent g ns (suc i) h k = ap (λ (ms : List ℕ). slice_get (map g ms) i) h
    ∙ range_row_past g 1 (length ns) i (past (cases_lt i (length ns)))
  where
    past : (i < length ns) ⊎ (length ns ≤ i) → length ns ≤ i
    past (inr x) = x
    past (inl x) = let there : is_among ns (suc i) ≡ true = numbered_there ns h (suc i) (omega arith) (omega arith) in
        absurd cc

-- a row changes, and the others stay
pub rows_changed : {R : Type 0} (f : R → R) (g k : ℕ → R) (ns : List ℕ) (p : ℕ) → IsNumbered ns → is_among ns p ≡ true
    → ((q : ℕ) → is_among ns q ≡ true → (p == q) ≡ false → k q ≡ g q) → k p ≡ f (g p) → map k ns
    ≡ change_row f p (map g ns)
rows_changed f g k ns zero h there same at = absurd (let x = numbered_among ns h 0 there in omega arith)
rows_changed {R = R} f g k ns (suc i) h there same at =
    let x = numbered_among ns h (suc i) there in
    ap (map k) h
    ∙ range_change g k 1 (length ns) i (suc i) (omega arith) (omega arith)
    (λ q low high. same q (numbered_there ns h q low (omega arith)))
    ∙ ap (λ (ms : List ℕ). slice_set (map g ms) i (k (suc i))) (sym h)
    ∙ ap (slice_set (map g ns) i) at
    ∙ sym (ap (λ (o : Option R). option_map_or (λ r. slice_set (map g ns) i (f r)) o (map g ns))
    (row_there g ns (suc i) h there))

-- a count, where one of the numbers may pass anew or no more
pub counted_anew : (f g : ℕ → Bool) (ns : List ℕ) (p : ℕ) → IsNumbered ns → is_among ns p ≡ true
    → ((q : ℕ) → is_among ns q ≡ true → (p == q) ≡ false → g q ≡ f q) → count_by g ns
    ≡ recount (f p) (g p) (count_by f ns)
counted_anew f g ns zero h there same = absurd (let x = numbered_among ns h 0 there in omega arith)
counted_anew f g ns (suc i) h there same =
    let x = numbered_among ns h (suc i) there in
    let c = range_count f g 1 (length ns) i (suc i) (omega arith) (omega arith)
    (λ q low high. same q (numbered_there ns h q low (omega arith))) in
    let u : count_by f ns ≡ count_by f (range_with_len 1 (length ns)) = ap (count_by f) h in
    let w : count_by g ns ≡ count_by g (range_with_len 1 (length ns)) = ap (count_by g) h in
    omega arith

-- the rows after one more number
pub rows_more : {R : Type 0} (g : ℕ → R) (ns : List ℕ) (p : ℕ) → map g (ns ++ p ∷ []) ≡ map g ns ++ g p ∷ []
rows_more g ns p = map_push g ns p

-- the same over numbers, where the second test is the other side of the first at each of them
pub all_by_count_within : (f g : ℕ → Bool) (ns : List ℕ) → ((n : ℕ) → is_among ns n ≡ true → g n ≡ not (f n))
    → list_all f ns ≡ (count_by g ns == 0)
all_by_count_within f g ns h = all_by_count f (λ n. not (f n)) ns (λ n. refl)
    ∙ ap (λ (k : ℕ). k == 0) (sym (count_within g (λ n. not (f n)) ns h))
