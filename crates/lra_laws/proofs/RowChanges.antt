-- What is read of rows by number after one of them changed, or one more came.
use Rattle.std.proofs.Common.{◌≡◌, ◌≢◌, ℕ, zero, suc, List, [], ◌∷◌, ◌++◌, length, Option, Some, None, refl, ap, arith}
use Rattle.std.proofs.Common.{length-set}
use Rattle.std.specs.Prelude.{option_map, slice_get, slice_set}
use Rattle.std.specs.Option.{option_map_or}
use Rattle.lra_laws.specs.Rows.{row_at, change_row}

get-set_other : {R : Type 0} (rows : List R) (n : ℕ) (y : R) (x : ℕ) → x ≢ n → slice_get (slice_set rows n y) x
    ≡ slice_get rows x
get-set_other [] n y x other = refl
get-set_other (r ∷ rows) zero y zero other = absurd (omega arith)
get-set_other (r ∷ rows) zero y (suc x) other = refl
get-set_other (r ∷ rows) (suc n) y zero other = refl
get-set_other (r ∷ rows) (suc n) y (suc x) other = get-set_other rows n y x (λ e. omega arith)

get-set_kept : {R Y : Type 0} (g : R → Y) (rows : List R) (n : ℕ) (r y : R) (x : ℕ) → slice_get rows n ≡ Some r → g y
    ≡ g r → option_map g (slice_get (slice_set rows n y) x) ≡ option_map g (slice_get rows x)
get-set_kept g [] n r y x here same = refl
get-set_kept {R = R} {Y = Y} g (q ∷ rows) zero r y zero here same = one q here
  where
    one : (q : R) → Some q ≡ Some r → Some (g y) ≡ Some (g q)
    one q e = let k : q ≡ r = cc in let h : g q ≡ g r = ap g k in cc
get-set_kept g (q ∷ rows) zero r y (suc x) here same = refl
get-set_kept g (q ∷ rows) (suc n) r y zero here same = refl
get-set_kept g (q ∷ rows) (suc n) r y (suc x) here same = get-set_kept g rows n r y x here same

-- the other rows stay
pub row_at-change_other : {R : Type 0} (f : R → R) (n : ℕ) (rows : List R) (x : ℕ) → x ≢ n
    → row_at (change_row f n rows) x ≡ row_at rows x
row_at-change_other f zero rows x other = refl
row_at-change_other f (suc n) rows zero other = refl
row_at-change_other {R = R} f (suc n) rows (suc x) other = known (slice_get rows n)
  where
    known : (o : Option R) → slice_get (option_map_or (λ r. slice_set rows n (f r)) o rows) x ≡ slice_get rows x
    known None = refl
    known (Some r) = get-set_other rows n (f r) x (λ e. omega arith)

-- what the change leaves of a row stays everywhere
pub row_at-change_kept : {R Y : Type 0} (g : R → Y) (f : R → R) (n : ℕ) (rows : List R) (x : ℕ)
    → ((r : R) → g (f r) ≡ g r) → option_map g (row_at (change_row f n rows) x) ≡ option_map g (row_at rows x)
row_at-change_kept g f zero rows x kept = refl
row_at-change_kept g f (suc n) rows zero kept = refl
row_at-change_kept {R = R} g f (suc n) rows (suc x) kept = known (slice_get rows n) refl
  where
    known : (o : Option R) → slice_get rows n ≡ o → option_map g (slice_get
        (option_map_or (λ r. slice_set rows n (f r)) o rows) x) ≡ option_map g (slice_get rows x)
    known None here = refl
    known (Some r) here = get-set_kept g rows n r (f r) x here (kept r)

pub length-change_row : {R : Type 0} (f : R → R) (n : ℕ) (rows : List R) → length (change_row f n rows) ≡ length rows
length-change_row f zero rows = refl
length-change_row {R = R} f (suc n) rows = known (slice_get rows n)
  where
    known : (o : Option R) → length (option_map_or (λ r. slice_set rows n (f r)) o rows) ≡ length rows
    known None = refl
    known (Some r) = length-set rows n (f r)

-- so do those before one more row
pub row_at-push_other : {R : Type 0} (rows : List R) (r : R) (x : ℕ) → x ≢ suc (length rows) → row_at (rows ++ r ∷ []) x
    ≡ row_at rows x
row_at-push_other rows r zero other = refl
row_at-push_other {R = R} rows r (suc x) other = before rows x (λ e. omega arith)
  where
    before : (rows : List R) (x : ℕ) → x ≢ length rows → slice_get (rows ++ r ∷ []) x ≡ slice_get rows x
    before [] zero other = absurd (omega arith)
    before [] (suc x) other = refl
    before (q ∷ rows) zero other = refl
    before (q ∷ rows) (suc x) other = before rows x (λ e. omega arith)
