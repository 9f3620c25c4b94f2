-- Rows by their numbers.
use Rattle.std.proofs.Common.{◌≡◌, ℕ, zero, suc, ◌<◌, List, [], ◌∷◌, length, Option, Some, None, refl, sym, ap, subst}
use Rattle.std.proofs.Common.{arith, slice_get, slice_set, slice_index_or, IfSome}
use Rattle.std.specs.Option.{option_map_or}
use Rattle.lra_laws.specs.Rows.{row_at, change_row}
use Rattle.lra_states.proofs.Replacing.{slice_get-set_same}

-- what holds of the row of a number holds of what stands at its place
pub row_has : {R : Type 0} (P : R → Type 0) (rows : List R) (place : ℕ) (r : R) → place < length rows → r
    ≡ slice_index_or rows place r → IfSome (row_at rows (suc place)) P → P r
row_has P [] place r h e i = absurd (omega arith)
row_has P (y ∷ rows) zero r h e i = subst P (sym e) i
row_has P (y ∷ rows) (suc place) r h e i = row_has P rows place r (omega arith) e i

slice_set-set : {R : Type 0} (rows : List R) (k : ℕ) (x r : R) → slice_get rows k ≡ Some x
    → slice_set (slice_set rows k r) k x ≡ rows
slice_set-set [] k x r e = refl
slice_set-set (y ∷ rows) zero x r e = ap (λ z. z ∷ rows) (sym (some e))
  where
    some : Some y ≡ Some x → y ≡ x
    some h = cc
slice_set-set (y ∷ rows) (suc k) x r e = ap (λ zs. y ∷ zs) (slice_set-set rows k x r e)

-- a row that was replaced, which a change makes of the new one again
pub changed_back_at : {R : Type 0} (g : R → R) (rows : List R) (k : ℕ) (x r : R) → slice_get rows k ≡ Some x → g r ≡ x
    → change_row g (suc k) (slice_set rows k r) ≡ rows
changed_back_at g rows k x r there e = rw (slice_get-set_same rows k x r there, e) (slice_set-set rows k x r there)

-- a row that is changed, and back
pub changed_back : {R : Type 0} (f g : R → R) → ((r : R) → g (f r) ≡ r) → (n : ℕ) (rows : List R)
    → change_row g n (change_row f n rows) ≡ rows
changed_back f g e zero rows = refl
changed_back {R = R} f g e (suc k) rows = of_row (slice_get rows k) refl
  where
    of_row : (o : Option R) → slice_get rows k ≡ o → change_row g (suc k)
        (option_map_or (λ r. slice_set rows k (f r)) o rows) ≡ rows
    of_row None h = rw h refl
    of_row (Some r) h = changed_back_at g rows k r (f r) h (e r)
