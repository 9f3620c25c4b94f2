-- Asks by their numbers.
use Rattle.std.proofs.Common.{◌≡◌, ℕ, zero, suc, ◌+◌, ◌-◌, List, [], ◌∷◌, ◌++◌, length, take, Option, Some, refl, sym}
use Rattle.std.proofs.Common.{ap, ◌∙◌, arith, slice_get}
use Rattle.std.specs.Prelude.{nat_lt, option_map}
use Rattle.lra_model.specs.Members.{Asked}
use Rattle.lra_laws.specs.Rows.{row_at}
use Rattle.lra_rows.specs.Rowed.{takes_one}
use Rattle.lra_rows.specs.Steps.{without_last}
use Rattle.lra_rows.specs.declared.asks.Unnumbered.{Unnumbered}
use Rattle.lra_rows.specs.inner.Asks.{with_number, numbered}

-- as many have numbers
pub length-numbered : (k : ℕ) (xs : List Unnumbered) → length (numbered k xs) ≡ length xs
length-numbered k [] = refl
length-numbered k (x ∷ xs) = ap suc (length-numbered (suc k) xs)

-- the ask at a place
slice_get-numbered : (k : ℕ) (xs : List Unnumbered) (n : ℕ) → slice_get (numbered k xs) n
    ≡ option_map (with_number (k + suc n)) (slice_get xs n)
slice_get-numbered k [] n = refl
slice_get-numbered k (x ∷ xs) zero = ap (λ (m : ℕ). Some (with_number m x))
    (let e : suc k ≡ k + suc 0 = omega arith in e)
slice_get-numbered k (x ∷ xs) (suc n) =
    slice_get-numbered (suc k) xs n
    ∙ ap (λ (m : ℕ). option_map (with_number m) (slice_get xs n))
    (let e : suc k + suc n ≡ k + suc (suc n) = omega arith in e)

-- the ask of a number
pub row_at-numbered : (xs : List Unnumbered) (n : ℕ) → row_at (numbered 0 xs) n
    ≡ option_map (with_number n) (row_at xs n)
row_at-numbered xs zero = refl
row_at-numbered xs (suc n) = slice_get-numbered 0 xs n ∙ ap (λ (m : ℕ). option_map (with_number m) (slice_get xs n))
    (let e : 0 + suc n ≡ suc n = omega arith in e)

-- the ask that is read of what stands there
pub read_at : (xs : List Unnumbered) (n : ℕ) (o : Option Unnumbered) → o ≡ row_at xs n → option_map (with_number n) o
    ≡ row_at (numbered 0 xs) n
read_at xs n o h = ap (option_map (with_number n)) h ∙ sym (row_at-numbered xs n)

-- one more has the next number
numbered-more : (k : ℕ) (xs : List Unnumbered) (x : Unnumbered) → numbered k (xs ++ x ∷ []) ≡ numbered k xs
    ++ with_number (k + length xs + 1) x ∷ []
numbered-more k [] x = ap (λ (m : ℕ). with_number m x ∷ []) (let e : suc k ≡ k + 0 + 1 = omega arith in e)
numbered-more k (y ∷ xs) x =
    ap (λ (ys : List Asked). with_number (suc k) y ∷ ys)
    (numbered-more (suc k) xs x ∙ ap (λ (m : ℕ). numbered (suc k) xs ++ with_number m x ∷ [])
    (let e : suc k + length xs + 1 ≡ k + suc (length xs) + 1 = omega arith in e))

pub one_more : (xs : List Unnumbered) (x : Unnumbered) (n : ℕ) → n ≡ length (numbered 0 xs) + 1
    → numbered 0 (xs ++ x ∷ []) ≡ numbered 0 xs ++ with_number n x ∷ []
one_more xs x n next =
    numbered-more 0 xs x
    ∙ ap (λ (m : ℕ). numbered 0 xs ++ with_number m x ∷ [])
    (let l = length-numbered 0 xs in let e : 0 + length xs + 1 ≡ n = omega arith in e)

-- one less
take-numbered : (k n : ℕ) (xs : List Unnumbered) → numbered k (take n xs) ≡ take n (numbered k xs)
take-numbered k zero xs = refl
take-numbered k (suc n) [] = refl
take-numbered k (suc n) (x ∷ xs) = ap (λ (ys : List Asked). with_number (suc k) x ∷ ys) (take-numbered (suc k) n xs)

pub one_less : (xs : List Unnumbered) → numbered 0 (without_last xs) ≡ without_last (numbered 0 xs)
one_less xs = take-numbered 0 (length xs - 1) xs ∙ ap (λ (n : ℕ). take (n - 1) (numbered 0 xs))
    (sym (length-numbered 0 xs))

-- there is as much room
pub takes_numbered : (xs : List Unnumbered) (capacity : ℕ) → takes_one (numbered 0 xs) capacity ≡ takes_one xs capacity
takes_numbered xs capacity = ap (λ (n : ℕ). nat_lt n capacity) (length-numbered 0 xs)
