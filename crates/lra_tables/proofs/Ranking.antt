-- Ranks of numbers under a digest, and what a change of one makes of their list.
use Rattle.std.proofs.Common.{◌≡◌, ◌≢◌, ℕ, zero, suc, ◌+◌, ◌<◌, ◌≤◌, Bool, true, false, cond, List, [], ◌∷◌, ◌++◌}
use Rattle.std.proofs.Common.{length, Option, Some, None, inl, inr, refl, sym, ap, ◌∙◌, subst, Result, Ok, Err, IsOk}
use Rattle.std.proofs.Common.{IsSome, OnOk, arith, nat_eq, nat_le, nat_lt, slice_get, eqb-true, ne_eqb, eq-eqb}
use Rattle.std.specs.Prelude.{◌==◌, ◌&&◌}
use Rattle.std.proofs.Math.Bool.{and-false}
use Rattle.std.proofs.lemmas.Bool.{cases_eq, le-leb, ltb-false}
use Rattle.std.proofs.lemmas.Bool.Decides.{nat_tests}
use Rattle.std.proofs.lemmas.Option.{slice_get_cases, slice_get_past, slice_get_within, none-some}
use Rattle.std.specs.HashMap.{Updates}
use Rattle.lra_tables.specs.inner.Listed.{without}
use Rattle.lra_tables.specs.inner.Ranks.{Numbers, same_rank, at, IsList, IsMissing, IsFirstRank, IsClosed}

-- where a list has nothing it has ended
pub past : (ns : List ℕ) (i : ℕ) → slice_get ns i ≡ None → length ns ≤ i
past ns i h =
    elim (slice_get_cases ns i).1 [
      | inl x ↦ absurd (none-some x.0 (sym h ∙ x.2))
      | inr x ↦ x.0
    ]

-- two lists of the numbers under a digest have one length
pub one_length : (m : Numbers) (digest : ℕ) (ns ms : List ℕ) → IsList m digest ns → IsList m digest ms → length ns
    ≤ length ms
one_length m digest ns ms h k = past ns (length ms) (sym (h (length ms)) ∙ k (length ms)
    ∙ slice_get_past ms (length ms) (omega arith))

-- ---- one more

push_here : (ns : List ℕ) (x i : ℕ) → i ≡ length ns → slice_get (ns ++ x ∷ []) i ≡ Some x
push_here [] x zero h = refl
push_here [] x (suc i) h = absurd (omega arith)
push_here (n ∷ ns) x zero h = absurd (omega arith)
push_here (n ∷ ns) x (suc i) h = push_here ns x i (omega arith)

push_other : (ns : List ℕ) (x i : ℕ) → i ≢ length ns → slice_get (ns ++ x ∷ []) i ≡ slice_get ns i
push_other [] x zero h = absurd (h refl)
push_other [] x (suc i) h = refl
push_other (n ∷ ns) x zero h = refl
push_other (n ∷ ns) x (suc i) h = push_other ns x i (λ e. h (omega arith))

pub added : (old new : Numbers) (digest number k : ℕ) → Updates same_rank old new (digest, k) (Some number)
    → ((ns : List ℕ) → IsList old digest ns → k ≡ length ns)
    → (other : ℕ) (ns : List ℕ) → IsList old other ns → IsList new other (cond (digest == other) (ns ++ number ∷ []) ns)
added old new digest number k updates counted other ns listed rank = updates.0 (other, rank)
    ∙ by_digest (digest == other) refl
  where
    by_digest : (b : Bool) → (digest == other) ≡ b → cond (b && nat_eq k rank) (Some number) (at old other rank)
        ≡ slice_get (cond b (ns ++ number ∷ []) ns) rank
    by_digest false e = listed rank
    by_digest true e =
        let last : k ≡ length ns = counted ns (subst (λ (d : ℕ). IsList old d ns) (sym (eqb-true digest other e))
        listed) in
        elim (cases_eq k rank) [
          | inl same ↦ ap (λ (b : Bool). cond b (Some number) (at old other rank)) (eq-eqb k rank same)
              ∙ sym (push_here ns number rank (sym same ∙ last))
          | inr apart ↦ ap (λ (b : Bool). cond b (Some number) (at old other rank)) (ne_eqb k rank apart) ∙ listed rank
              ∙ sym (push_other ns number rank (λ e. apart (last ∙ sym e)))
        ]

-- ---- one less

-- numbers from a rank on moved up by one, as far as a place
abbrev pub moved : ℕ → ℕ → (ℕ → Option ℕ) → ℕ → Option ℕ
moved r p f i = cond (nat_le r i && nat_lt i p) (f (i + 1)) (f i)

-- what is left at the end
pub moved_all : (r p : ℕ) (f : ℕ → Option ℕ) (ns : List ℕ) (i : ℕ) → r ≤ p → f (p + 1) ≡ None
    → ((j : ℕ) → f j ≡ slice_get ns j) → cond (nat_eq p i) None (moved r p f i)
    ≡ cond (nat_le r i) (slice_get ns (i + 1)) (slice_get ns i)
moved_all r p f ns i later none listed =
    elim (cases_eq p i) [
      | inl same ↦
          ap (λ (b : Bool). cond b None (moved r p f i)) (eq-eqb p i same)
          ∙ sym (ap (λ (b : Bool). cond b (slice_get ns (i + 1)) (slice_get ns i)) (le-leb r i (omega arith))
          ∙ sym (listed (i + 1)) ∙ ap (λ (j : ℕ). f (j + 1)) (sym same) ∙ none)
      | inr apart ↦ ap (λ (b : Bool). cond b None (moved r p f i)) (ne_eqb p i apart)
          ∙ by_order apart (nat_le r i) refl (nat_lt i p) refl
    ]
  where
    short : length ns ≤ p + 1
    short = past ns (p + 1) (sym (listed (p + 1)) ∙ none)

    by_order : p ≢ i → (b : Bool) → nat_le r i ≡ b → (d : Bool) → nat_lt i p ≡ d → cond (b && d) (f (i + 1)) (f i)
        ≡ cond b (slice_get ns (i + 1)) (slice_get ns i)
    by_order apart false e d g = listed i
    by_order apart true e true g = listed (i + 1)
    by_order apart true e false g =
        let beyond : p ≤ i = ltb-false i p g in
        let ends : length ns ≤ p + 1 = short in
        listed i ∙ slice_get_past ns i (omega arith) ∙ sym (slice_get_past ns (i + 1) (omega arith))

le_suc : (r i : ℕ) → nat_le (suc r) (suc i) ≡ nat_le r i
le_suc r i = grind (arith, nat_tests)

-- a list closed at the first rank of a number is that without it
pub closed_at : (ns : List ℕ) (number r : ℕ) → slice_get ns r ≡ Some number
    → ((i : ℕ) → i < r → slice_get ns i ≡ Some number → ⊥) → (i : ℕ) → cond (nat_le r i) (slice_get ns (i + 1))
    (slice_get ns i) ≡ slice_get (without number ns) i
closed_at [] number r here first i = absurd cc
closed_at (n ∷ ns) number zero here first i =
    let same : n ≡ number = cc in
    ap (λ (b : Bool). cond b (slice_get (n ∷ ns) (i + 1)) (slice_get (n ∷ ns) i)) (le-leb 0 i (omega arith))
    ∙ ap (slice_get (n ∷ ns)) (let e : i + 1 ≡ suc i = omega arith in e)
    ∙ sym (ap (λ (b : Bool). slice_get (cond b ns (n ∷ without number ns)) i) (eq-eqb n number same))
closed_at (n ∷ ns) number (suc r) here first i =
    at_rank (closed_at ns number r here (λ j h. first (suc j) (omega arith))) i
    ∙ sym (ap (λ (b : Bool). slice_get (cond b ns (n ∷ without number ns)) i)
    (ne_eqb n number (λ e. first 0 (omega arith) (ap (λ (x : ℕ). Some x) e))))
  where
    at_rank : ((j : ℕ) → cond (nat_le r j) (slice_get ns (j + 1)) (slice_get ns j) ≡ slice_get (without number ns) j)
        → (j : ℕ) → cond (nat_le (suc r) j) (slice_get (n ∷ ns) (j + 1)) (slice_get (n ∷ ns) j)
        ≡ slice_get (n ∷ without number ns) j
    at_rank rest zero = ap (λ (b : Bool). cond b (slice_get (n ∷ ns) (0 + 1)) (Some n))
        (let e : nat_le (suc r) 0 ≡ false = grind (arith, nat_tests) in e)
    at_rank rest (suc j) =
        ap (λ (k : ℕ). cond (nat_le (suc r) (suc j)) (slice_get (n ∷ ns) k) (slice_get ns j))
        (let e : suc j + 1 ≡ suc (j + 1) = omega arith in e)
        ∙ ap (λ (b : Bool). cond b (slice_get ns (j + 1)) (slice_get ns j)) (le_suc r j)
        ∙ rest j

-- a list without a number that isn't there
pub without_missing : (ns : List ℕ) (number : ℕ) → ((i : ℕ) → slice_get ns i ≡ Some number → ⊥) → without number ns ≡ ns
without_missing [] number h = refl
without_missing (n ∷ ns) number h = ap (λ (b : Bool). cond b ns (n ∷ without number ns))
    (ne_eqb n number (λ e. h 0 (ap (λ (x : ℕ). Some x) e))) ∙ ap (λ (ms : List ℕ). n ∷ ms)
    (without_missing ns number (λ i. h (suc i)))

-- ---- as the code has it

-- a call that succeeds
pub from_ok : {T E : Type 0} {P : Type 0} (r : Result T E) → IsOk r → OnOk r P → P
from_ok (Ok x) h p = p
from_ok (Err e) h p = absurd (let x : false ≡ true = h in cc)

-- a rank that has a number is within the list
pub inside : (o : Option ℕ) (ns : List ℕ) (place : ℕ) → o ≡ slice_get ns place → IsSome o → place < length ns
inside None ns place e h = absurd (let x : false ≡ true = h in cc)
inside (Some x) ns place e h = slice_get_within ns place x (sym e)

-- what comes next hasn't moved yet
pub unmoved : (r p : ℕ) (f : ℕ → Option ℕ) → moved r p f (p + 1) ≡ f (p + 1)
unmoved r p f = ap (λ (b : Bool). cond (nat_le r (p + 1) && b) (f (p + 1 + 1)) (f (p + 1)))
    (let e : nat_lt (p + 1) p ≡ false = grind (arith, nat_tests) in e)
    ∙ ap (λ (b : Bool). cond b (f (p + 1 + 1)) (f (p + 1))) (and-false (nat_le r (p + 1)))

-- the last of those that moved is taken away
pub taken : (m : Numbers) (new : Numbers) (digest r p : ℕ) (f : ℕ → Option ℕ) → r ≤ p
    → Updates same_rank m new (digest, p) None → ((i : ℕ) → at m digest i ≡ moved r p f i) → None ≡ at m digest (p + 1)
    → (ns : List ℕ) → ((j : ℕ) → f j ≡ slice_get ns j) → (i : ℕ) → at new digest i
    ≡ cond (nat_le r i) (slice_get ns (i + 1)) (slice_get ns i)
taken m new digest r p f later updates so_far none ns listed i =
    updates.0 (digest, i)
    ∙ ap (λ (b : Bool). cond (b && nat_eq p i) None (at m digest i)) (eq-eqb digest digest refl)
    ∙ ap (λ (o : Option ℕ). cond (nat_eq p i) None o) (so_far i)
    ∙ moved_all r p f ns i later (sym (none ∙ so_far (p + 1) ∙ unmoved r p f)) listed

-- a list without a number that was found
pub removed : (old new : Numbers) (digest number r : ℕ) → IsFirstRank old digest number r
    → ((ns : List ℕ) → IsList old digest ns → IsClosed new digest r ns)
    → ((other i : ℕ) → (digest == other) ≡ false → at new other i ≡ at old other i)
    → (other : ℕ) (ns : List ℕ) → IsList old other ns → IsList new other (cond (digest == other) (without number ns) ns)
removed old new digest number r found closed others other ns listed i = by_digest (digest == other) refl
  where
    by_digest : (b : Bool) → (digest == other) ≡ b → at new other i ≡ slice_get (cond b (without number ns) ns) i
    by_digest false e = others other i e ∙ listed i
    by_digest true e =
        let same : digest ≡ other = eqb-true digest other e in
        let list : IsList old digest ns = subst (λ (d : ℕ). IsList old d ns) (sym same) listed in
        ap (λ (d : ℕ). at new d i) (sym same) ∙ closed ns list i
        ∙ closed_at ns number r (sym (list r) ∙ found.here) (λ j lt g. found.first j lt (list j ∙ g)) i

-- one without a number that wasn't there
pub left : (m : Numbers) (digest number : ℕ) → IsMissing m digest number → (other : ℕ) (ns : List ℕ) → IsList m other ns
    → IsList m other (cond (digest == other) (without number ns) ns)
left m digest number missing other ns listed i = by_digest (digest == other) refl
  where
    by_digest : (b : Bool) → (digest == other) ≡ b → at m other i ≡ slice_get (cond b (without number ns) ns) i
    by_digest false e = listed i
    by_digest true e =
        listed i ∙ sym (ap (λ (ms : List ℕ). slice_get ms i) (without_missing ns number
        (λ j g. missing j (ap (λ (d : ℕ). at m d j) (eqb-true digest other e) ∙ listed j ∙ g))))
