-- The comparison of texts byte by byte, all to the end.
use Rattle.std.proofs.Common.{◌≡◌, ℕ, ◌+◌, ◌<◌, ◌≤◌, ◌==◌, Bool, true, false, List, length, drop, get_or, inl, inr}
use Rattle.std.proofs.Common.{refl, sym, ap, eqb-true, ◌∙◌, subst, arith, add-one, drop-cons}
use Rattle.std.specs.Prelude.{◌&&◌, bytes_eq}
use Rattle.std.proofs.Math.Seq.{drop-length}
use Rattle.std.proofs.lemmas.Bool.Decides.{eqb_tells}
use Rattle.std.proofs.lemmas.Slice.Eq.{bytes_eq-Decides}

is_false : (b : Bool) → (b ≡ true → ⊥) → false ≡ b
is_false true h = absurd (h refl)
is_false false h = refl

-- before the first byte, the result with all bytes left is whether the texts are equal
pub begun : (g w : List ℕ) → ((length g == length w) && bytes_eq g w) ≡ bytes_eq g w
begun g w = elim (eqb_tells (length g) (length w)) [
  | inl h ↦ rw h.0 refl
  | inr p ↦ rw p.0 (is_false (bytes_eq g w) (λ e. p.1 (ap length ((bytes_eq-Decides g w).0 e))))
]

pub begun_long : (g w : List ℕ) → (length g == length w) ≡ true → length g ≡ length w
begun_long g w h = eqb-true (length g) (length w) h

-- one more byte doesn't change the result with the bytes that are left
pub compared : (g w : List ℕ) (i : ℕ) (same : Bool) → i < length g → (same ≡ true → length g ≡ length w)
    → ((same && (get_or g i 0 == get_or w i 0)) && bytes_eq (drop (i + 1) g) (drop (i + 1) w))
    ≡ (same && bytes_eq (drop i g) (drop i w))
compared g w i false h e = refl
compared g w i true h e =
    let k : i < length w = subst (λ n. i < n) (e refl) h in
    rw (drop-cons g i 0 h, drop-cons w i 0 k, add-one i) refl

pub compared_long : (g w : List ℕ) (same b : Bool) → (same ≡ true → length g ≡ length w) → (same && b) ≡ true → length g
    ≡ length w
compared_long g w true b e h = e refl
compared_long g w false b e h = e h

-- after the last byte, the result alone is whether the texts are equal
whole : (g w : List ℕ) (same : Bool) → (same ≡ true → length g ≡ length w)
    → (same && bytes_eq (drop (length g) g) (drop (length g) w)) ≡ same
whole g w false e = refl
whole g w true e = rw (drop-length g, e refl, drop-length w) refl

pub ended : (g w : List ℕ) (i : ℕ) (same : Bool) → length g ≤ i → i ≤ length g → (same ≡ true → length g ≡ length w)
    → (same && bytes_eq (drop i g) (drop i w)) ≡ bytes_eq g w → same ≡ bytes_eq g w
ended g w i same low high e rest =
    let k : i ≡ length g = omega arith in
    let P : ℕ → Type 0 = λ n. (same && bytes_eq (drop n g) (drop n w)) ≡ bytes_eq g w in
    sym (whole g w same e) ∙ subst P k rest
