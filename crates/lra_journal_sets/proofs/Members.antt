-- Members of a list, by their instances and by their indices.
use Rattle.std.proofs.Common.{◌≡◌, ◌≢◌, ℕ, zero, suc, ◌<◌, ◌==◌, Bool, true, false, if◌then◌else◌, List, [], ◌∷◌, ◌++◌}
use Rattle.std.proofs.Common.{length, take, get_or, set, Some, None, inl, inr, refl, sym, ap, ◌∙◌, arith}
use Rattle.std.specs.List.{remove}
use Rattle.std.proofs.lemmas.Bool.Decides.{eqb_tells}
use Rattle.lra_journal_sets.specs.JournalSets.{member, put, without}
use Rattle.lra_journal_sets.specs.inner.Places.{StandsAt}

-- ---- the two cases of a test

yes : {A : Type 0} (b : Bool) (x y : A) → b ≡ true → (if b then x else y) ≡ x
yes b x y h = ap (λ c. if c then x else y) h

no : {A : Type 0} (b : Bool) (x y : A) → b ≡ false → (if b then x else y) ≡ y
no b x y h = ap (λ c. if c then x else y) h

same : (m n : ℕ) → m ≡ n → (m == n) ≡ true
same m n e = elim (eqb_tells m n) [ inl h ↦ h.0 | inr h ↦ absurd (h.1 e) ]

other : (m n : ℕ) → m ≢ n → (m == n) ≡ false
other m n e = elim (eqb_tells m n) [ inl h ↦ absurd (e h.1) | inr h ↦ h.0 ]

pub test_yes : {A : Type 0} (m n : ℕ) (x y : A) → m ≡ n → (if m == n then x else y) ≡ x
test_yes m n x y e = yes (m == n) x y (same m n e)

pub test_no : {A : Type 0} (m n : ℕ) (x y : A) → m ≢ n → (if m == n then x else y) ≡ y
test_no m n x y e = no (m == n) x y (other m n e)

module _ {S : Type 0} (name : S → ℕ) where
  -- ---- members by their instances

  pub member-here : (i : ℕ) (s : S) (ss : List S) → name s ≡ i → member name i (s ∷ ss) ≡ Some s
  member-here i s ss e = test_yes (name s) i (Some s) (member name i ss) e

  pub member-there : (i : ℕ) (s : S) (ss : List S) → name s ≢ i → member name i (s ∷ ss) ≡ member name i ss
  member-there i s ss e = test_no (name s) i (Some s) (member name i ss) e

  -- an instance that isn't in a list isn't its first
  pub not_first : (i : ℕ) (s : S) (ss : List S) → member name i (s ∷ ss) ≡ None → (name s ≢ i)
      × (member name i ss ≡ None)
  not_first i s ss h = elim (eqb_tells (name s) i) [
    | inl e ↦ absurd (let k : Some s ≡ None = sym (member-here i s ss e.1) ∙ h in cc)
    | inr e ↦ (e.1, sym (member-there i s ss e.1) ∙ h)
  ]

  pub member-append : (i : ℕ) (ss ts : List S) → member name i ss ≡ None → member name i (ss ++ ts) ≡ member name i ts
  member-append i [] ts h = refl
  member-append i (s ∷ ss) ts h =
      let k = not_first i s ss h in
      member-there i s (ss ++ ts) k.0 ∙ member-append i ss ts k.1

  -- replacing a member by itself changes nothing
  pub put_same : (i : ℕ) (ss : List S) (s : S) → member name i ss ≡ Some s → put name i s ss ≡ ss
  put_same i [] s h = refl
  put_same i (u ∷ ss) s h = elim (eqb_tells (name u) i) [
    | inl e ↦ (
        let k : Some u ≡ Some s = sym (member-here i u ss e.1) ∙ h in
        let same : u ≡ s = cc in
        test_yes (name u) i (s ∷ ss) (u ∷ put name i s ss) e.1 ∙ ap (λ v. v ∷ ss) (sym same)
        )
    | inr e ↦ test_no (name u) i (s ∷ ss) (u ∷ put name i s ss) e.1 ∙ ap (λ us. u ∷ us)
        (put_same i ss s (sym (member-there i u ss e.1) ∙ h))
  ]

  -- ---- members by their indices

  pub stands : (i p : ℕ) (ss : List S) (s : S) → member name i (take p ss) ≡ None → p < length ss → s ≡ get_or ss p s
      → name s ≡ i → StandsAt name i p ss
  stands i p [] s fresh below at e = absurd (omega (arith, below))
  stands i zero (t ∷ ss) s fresh below at e = ap name (sym at) ∙ e
  stands i (suc p) (t ∷ ss) s fresh below at e =
      let k = not_first i t (take p ss) fresh in
      (k.0, stands i p ss s k.1 (omega (arith, below)) at e)

  pub stands_below : (i p : ℕ) (ss : List S) → StandsAt name i p ss → p < length ss
  stands_below i p [] h = absurd h
  stands_below i zero (s ∷ ss) h = omega arith
  stands_below i (suc p) (s ∷ ss) h = let k = stands_below i p ss h.1 in omega (arith, k)

  pub stands_member : (i p : ℕ) (ss : List S) (s : S) → StandsAt name i p ss → s ≡ get_or ss p s → member name i ss
      ≡ Some s
  stands_member i p [] s h at = absurd h
  stands_member i zero (t ∷ ss) s h at = member-here i t ss h ∙ ap Some (sym at)
  stands_member i (suc p) (t ∷ ss) s h at = member-there i t ss h.0 ∙ stands_member i p ss s h.1 at

  pub stands_put : (i p : ℕ) (ss : List S) (t : S) → StandsAt name i p ss → put name i t ss ≡ set ss p t
  stands_put i p [] t h = absurd h
  stands_put i zero (s ∷ ss) t h = test_yes (name s) i (t ∷ ss) (s ∷ put name i t ss) h
  stands_put i (suc p) (s ∷ ss) t h = test_no (name s) i (t ∷ ss) (s ∷ put name i t ss) h.0
      ∙ ap (λ us. s ∷ us) (stands_put i p ss t h.1)

  pub stands_without : (i p : ℕ) (ss : List S) → StandsAt name i p ss → without name i ss ≡ remove ss p
  stands_without i p [] h = absurd h
  stands_without i zero (s ∷ ss) h = test_yes (name s) i ss (s ∷ without name i ss) h
  stands_without i (suc p) (s ∷ ss) h = test_no (name s) i ss (s ∷ without name i ss) h.0
      ∙ ap (λ us. s ∷ us) (stands_without i p ss h.1)
