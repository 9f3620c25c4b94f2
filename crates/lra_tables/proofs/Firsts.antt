-- The first leaf of a tree of marks is the first marked number.
use Rattle.std.proofs.Common.{◌≡◌, ◌≢◌, ℕ, zero, suc, ◌+◌, ◌*◌, ◌-◌, ◌/◌, ◌%◌, ◌^◌, ◌≤◌, ◌<◌, Bool, true, false, List}
use Rattle.std.proofs.Common.{[], ◌∷◌, ◌++◌, length, set, length-set, length-append, get_or-set_same, get_or-set_other}
use Rattle.std.proofs.Common.{Option, Some, None, ◌⊎◌, inl, inr, refl, sym, ◌∙◌, ap, subst, arith, add-one}
use Rattle.std.proofs.Math.Nat.{div-add-mod, mod-lt}
use Rattle.std.proofs.lemmas.Bool.{cases_lt, false_from_ne_true, lt-ltb}
use Rattle.std.specs.Option.{option_to_list}
use Rattle.std.proofs.lemmas.List.{append-nil, get_or_past, get_or_append_left}
use Rattle.lra_timers.specs.declared.deadline.Deadline.{Deadline}
use Rattle.lra_timers.specs.Order.{IsFirstOf, node, last}
use Rattle.lra_tables.specs.declared.indexed_set.Order.{Order}
use Rattle.lra_tables.specs.declared.indexed_set.Order.TheVariants.{LeastFirst, GreatestFirst}
use Rattle.lra_tables.specs.inner.IndexedSet.{mark_at, IsNoLater, IsFirstMarked, NoneMarked}
use Rattle.lra_tables.proofs.Read.{mark_at-push_other}
use Rattle.lra_tables.specs.inner.Leaves.{key, flag, is_mark, IsReal, IsBest, IsWritten, AreLeaves}

-- ---- the best of a block

-- of no places the last deadline is the best
pub begun : (order : Order) (flags : List Bool) (start : ℕ) → IsBest order flags start start last
begun order flags start = record {
  real = λ h. absurd cc;
  none = λ h. refl;
  least =
      λ k above below marked. absurd (omega arith);
}

-- of one more place it stays the best where the place is not marked, or comes later
pub kept : (order : Order) (flags : List Bool) (start place : ℕ) (d : Deadline) → IsBest order flags start place d
    → (flag flags place ≡ true → d.moment ≤ key order (place + 1)) → IsBest order flags start (place + 1) d
kept order flags start place d best early = record {
  real = λ h. let r = best.real h in
      record {
        place = r.place;
        here = r.here;
        above = r.above;
        below = omega (arith, r.below);
        number = r.number;
        moment = r.moment;
      };
  none = best.none;
  least = λ k above below marked. elim (cases_lt k place) [
    | inl inside ↦ best.least k above inside marked
    | inr past ↦ let same : place ≡ k = omega arith in
        subst (λ j. d.moment ≤ key order (j + 1)) same (early (subst (λ j. flag flags j ≡ true) (sym same) marked))
  ];
}

-- and where it is marked and comes earlier, it is the best
pub taken : (order : Order) (flags : List Bool) (start place : ℕ) (d : Deadline) → place < 2 ^ 64 - 2 → start ≤ place
    → flag flags place ≡ true → key order (place + 1) < d.moment → IsBest order flags start place d
    → IsBest order flags start (place + 1) (record { moment = key order (place + 1); number = place + 1 })
taken order flags start place d few from here early best = record {
  real = λ h. record { place = place; here = here; above = from; below = omega arith; number = refl; moment = refl };
  none = λ h. let real = lt-ltb (place + 1) (2 ^ 64 - 1) (omega arith) in absurd cc;
  least = λ k above below marked. elim (cases_lt k place) [
    | inl inside ↦ let old = best.least k above inside marked in omega arith
    | inr past ↦ let same : place ≡ k = omega arith in
        subst (λ j. key order (place + 1) ≤ key order (j + 1)) same (omega arith)
  ];
}

-- the same, of flags that are the same at these places
moved : (order : Order) (flags gs : List Bool) (start end : ℕ) (d : Deadline)
    → ((k : ℕ) → start ≤ k → k < end → flag gs k ≡ flag flags k) → IsBest order flags start end d
    → IsBest order gs start end d
moved order flags gs start end d same best = record {
  real = λ h. let r = best.real h in
      record {
        place = r.place;
        here = same r.place r.above r.below ∙ r.here;
        above = r.above;
        below = r.below;
        number = r.number;
        moment = r.moment;
      };
  none = best.none;
  least = λ k above below marked. best.least k above below (sym (same k above below) ∙ marked);
}

-- ---- all blocks

apart_ne : (c b : ℕ) → (c < b) ⊎ (b < c) → c ≢ b
apart_ne c b (inl less) = omega arith
apart_ne c b (inr more) = omega arith

-- other flags and leaves, where nothing but one block and its leaf is another one
pub changed : (order : Order) (flags gs : List Bool) (leaves ls : List Deadline) (b : ℕ) → AreLeaves order flags leaves
    → ((k : ℕ) → (k < 8 * b) ⊎ (8 * b + 8 ≤ k) → flag gs k ≡ flag flags k)
    → ((c : ℕ) → c < length ls → (c < b) ⊎ (b < c) → (c < length leaves) × (node ls c ≡ node leaves c))
    → (b < length ls → IsWritten order gs b (node ls b))
    → length gs ≤ 8 * length ls → 8 * length ls < length gs + 8 → AreLeaves order gs ls
changed order flags gs leaves ls b are same others written wide tight = record { at = at; wide = wide; tight = tight }
  where
    other : (c : ℕ) → c < length ls → (c < b) ⊎ (b < c) → ((k : ℕ) → 8 * c ≤ k → k < 8 * c + 8 → flag gs k
        ≡ flag flags k) → IsWritten order gs c (node ls c)
    other c there apart equal =
        let o = others c there apart in
        subst (λ d. IsWritten order gs c d) (sym o.1) (moved order flags gs (8 * c) (8 * c + 8) (node leaves c) equal
        (are.at c o.0))

    at : (c : ℕ) → c < length ls → IsWritten order gs c (node ls c)
    at c there = elim (cases_lt c b) [
      | inl less ↦ other c there (inl less) (λ k above below. same k (inl (omega arith)))
      | inr most ↦ elim (cases_lt b c) [
        | inl more ↦ other c there (inr more) (λ k above below. same k (inr (omega arith)))
        | inr least ↦ let e : b ≡ c = omega arith in
            subst (λ x. IsWritten order gs x (node ls x)) e (written (subst (λ x. x < length ls) (sym e) there))
      ]
    ]

-- one leaf is written
pub with_leaf : (order : Order) (flags gs : List Bool) (leaves : List Deadline) (b : ℕ) (d : Deadline)
    → AreLeaves order flags leaves
    → ((k : ℕ) → (k < 8 * b) ⊎ (8 * b + 8 ≤ k) → flag gs k ≡ flag flags k) → IsWritten order gs b d → b < length leaves
    → length gs ≤ 8 * length leaves → 8 * length leaves < length gs + 8 → AreLeaves order gs (set leaves b d)
with_leaf order flags gs leaves b d are same written there wide tight =
    let len : length (set leaves b d) ≡ length leaves = length-set leaves b d in
    changed order flags gs leaves (set leaves b d) b are same
    (λ c inside apart. (subst (λ n. c < n) len inside, get_or-set_other leaves b c d last (apart_ne c b apart)))
    (λ h. subst (λ x. IsWritten order gs b x) (sym (get_or-set_same leaves b d last there)) written)
    (omega arith) (omega arith)

-- one leaf less
pub less_leaves : (order : Order) (flags gs : List Bool) (leaves ls : List Deadline) (b : ℕ) (d : Deadline)
    → AreLeaves order flags leaves
    → ((k : ℕ) → (k < 8 * b) ⊎ (8 * b + 8 ≤ k) → flag gs k ≡ flag flags k) → leaves ≡ ls ++ d ∷ [] → b ≡ length ls
    → length gs ≤ 8 * length ls → 8 * length ls < length gs + 8 → AreLeaves order gs ls
less_leaves order flags gs leaves ls b d are same split last_one wide tight =
    let len : length leaves ≡ length ls + 1 = ap length split ∙ length-append ls (d ∷ []) in
    changed order flags gs leaves ls b are same
    (λ c inside apart. (
      omega (arith, inside, len),
      sym (ap (λ (x : List Deadline). node x c) split
          ∙ get_or_append_left ls (d ∷ []) last c inside),
    ))
    (λ h. absurd (omega arith)) wide tight

-- one more flag leaves the others
pub flag_pushed : (es : List Bool) (x : Bool) (k : ℕ) → k ≢ length es → flag (es ++ x ∷ []) k ≡ flag es k
flag_pushed es x k other = mark_at-push_other es x (suc k) (omega arith)

-- and so does one less
pub flag_popped : (fs es : List Bool) (o : Option Bool) (k : ℕ) → fs ≡ es ++ option_to_list o → k ≢ length es
    → flag es k ≡ flag fs k
flag_popped fs es None k split other = sym (ap (λ (x : List Bool). flag x k) (split ∙ append-nil es))
flag_popped fs es (Some b) k split other = sym (ap (λ (x : List Bool). flag x k) split ∙ flag_pushed es b k other)

-- a place in no block but its own
pub not_in : (k b n : ℕ) → (k < 8 * b) ⊎ (8 * b + 8 ≤ k) → 8 * b ≤ n → n < 8 * b + 8 → k ≢ n
not_in k b n (inl less) above below = omega arith
not_in k b n (inr more) above below = omega arith

-- ---- the first of all

-- by the keys, where the numbers are less than that of the last deadline
no_later : (o : Order) (n m : ℕ) → n < 2 ^ 64 → m < 2 ^ 64 → key o n ≤ key o m → IsNoLater o n m
no_later LeastFirst n m small few h = h
no_later GreatestFirst n m small few h = omega arith

-- no key of a number is that of the last deadline
early : (o : Order) (n : ℕ) → 0 < n → n < 2 ^ 64 - 1 → key o n < 2 ^ 64 - 1
early LeastFirst n some few = few
early GreatestFirst n some few = omega arith

-- the block of a place
record IsInBlock (k b : ℕ) : Type 0 where
  above : 8 * b ≤ k
  below : k < 8 * b + 8

block : (k : ℕ) → IsInBlock k (k / 8)
block k =
    let parts = div-add-mod k 8 in
    let few = mod-lt k {m = 8} (omega arith) in
    record { above = omega arith; below = omega arith }

module _ (order : Order) (flags : List Bool) (leaves : List Deadline) (few : length flags < 2 ^ 63)
    (are : AreLeaves order flags leaves) where
  -- a marked place is there
  within : (k : ℕ) → flag flags k ≡ true → k < length flags
  within k marked = elim (cases_lt k (length flags)) [
    | inl inside ↦ inside
    | inr past ↦ let e = get_or_past flags k false past in absurd cc
  ]

  -- and so is the leaf of its block
  leaf_within : (k : ℕ) → flag flags k ≡ true → k / 8 < length leaves
  leaf_within k marked =
      let inside = within k marked in
      let b = block k in
      omega (arith, inside, b.above, are.wide)

  module _ (first : Deadline) (is : IsFirstOf leaves first) where
    -- the first deadline comes no later than any marked number
    soon : (k : ℕ) → flag flags k ≡ true → first.moment ≤ key order (k + 1)
    soon k marked =
        let b = block k in
        let there = leaf_within k marked in
        let least = (is.least (k / 8) there).moment in
        let own = (are.at (k / 8) there).least k b.above b.below marked in
        omega (arith, least, own)

    pub first_marked : is_mark first ≡ true → IsFirstMarked order flags first.number
    first_marked marked =
        let r = (are.at is.place is.within).real (ap is_mark is.here ∙ marked) in
        let number : first.number ≡ suc r.place = ap (λ (d : Deadline). d.number) (sym is.here) ∙ r.number
        ∙ add-one r.place in
        let moment : first.moment ≡ key order (r.place + 1) = ap (λ (d : Deadline). d.moment) (sym is.here)
        ∙ r.moment in
        subst (λ n. IsFirstMarked order flags n) (sym number)
        (record { is_marked = r.here; first = after r.place r.here moment })
      where
        after : (p : ℕ) → flag flags p ≡ true → first.moment ≡ key order (p + 1) → (n : ℕ) → mark_at flags n ≡ true
            → IsNoLater order (suc p) n
        after p here moment zero h = absurd cc
        after p here moment (suc k) h =
            let keys : key order (p + 1) ≤ key order (k + 1) = subst (λ m. m ≤ key order (k + 1)) moment (soon k h) in
            let inside = within k h in
            let own = within p here in
            subst (λ m. IsNoLater order m (suc k)) (add-one p) (subst (λ m. IsNoLater order (p + 1) m) (add-one k)
            (no_later order (p + 1) (k + 1) (omega arith) (omega arith) keys))

    pub none_marked : is_mark first ≡ false → NoneMarked flags
    none_marked unmarked zero = refl
    none_marked unmarked (suc k) = false_from_ne_true (flag flags k) (λ there.
        let moment : first.moment ≡ 2 ^ 64 - 1 = ap (λ (d : Deadline). d.moment) (sym is.here)
        ∙ (are.at is.place is.within).none (ap is_mark is.here ∙ unmarked) in
        let inside = within k there in
        let less = early order (k + 1) (omega arith) (omega arith) in
        let least = soon k there in
        omega arith)
