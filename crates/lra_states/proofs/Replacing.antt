-- Rows of which one is replaced.
use Rattle.std.proofs.Common.{◌≡◌, ℕ, zero, suc, List, [], ◌∷◌, Option, Some, None, refl, ap, slice_get, slice_set}
use Rattle.std.specs.Option.{option_map_or}
use Rattle.lra_laws.specs.Rows.{row_at}
use Rattle.lra_states.specs.inner.Changes.{with_row}

pub slice_get-set_same : {R : Type 0} (rows : List R) (k : ℕ) (x r : R) → slice_get rows k ≡ Some x
    → slice_get (slice_set rows k r) k ≡ Some r
slice_get-set_same [] k x r e = cc
slice_get-set_same (y ∷ rows) zero x r e = refl
slice_get-set_same (y ∷ rows) (suc k) x r e = slice_get-set_same rows k x r e

pub slice_get-set_other : {R : Type 0} (rows : List R) (k j : ℕ) (r : R) → (j ≡ k → ⊥)
    → slice_get (slice_set rows k r) j ≡ slice_get rows j
slice_get-set_other [] k j r ne = refl
slice_get-set_other (y ∷ rows) zero zero r ne = absurd (ne refl)
slice_get-set_other (y ∷ rows) zero (suc j) r ne = refl
slice_get-set_other (y ∷ rows) (suc k) zero r ne = refl
slice_get-set_other (y ∷ rows) (suc k) (suc j) r ne = slice_get-set_other rows k j r (λ e. ne (ap suc e))

-- a row that is put where one was is there, and the others stay
pub row_at-with_row_same : {R : Type 0} (n : ℕ) (rows : List R) (x r : R) → row_at rows n ≡ Some x
    → row_at (with_row n r rows) n ≡ Some r
row_at-with_row_same zero rows x r e = cc
row_at-with_row_same (suc n) rows x r e = rw e (slice_get-set_same rows n x r e)

pub row_at-with_row_other : {R : Type 0} (n : ℕ) (rows : List R) (r : R) (m : ℕ) → (m ≡ n → ⊥)
    → row_at (with_row n r rows) m ≡ row_at rows m
row_at-with_row_other zero rows r m ne = refl
row_at-with_row_other (suc n) rows r zero ne = refl
row_at-with_row_other {R = R} (suc n) rows r (suc m) ne =
    elim (slice_get rows n) as (λ (o : Option R). slice_get (option_map_or (λ _. slice_set rows n r) o rows) m
    ≡ slice_get rows m) [
      | None ↦ refl
      | Some x ↦ slice_get-set_other rows n m r (λ e. ne (ap suc e))
    ]
