-- Bytes that are made by division.
use Rattle.std.proofs.Common.{ℕ, zero, suc, ◌<◌, ◌%◌, ◌^◌, List, [], ◌∷◌, map, get_or, arith}

-- each remainder of a division by 256 is a byte
pub remainders_fit : (numbers : List ℕ) (k : ℕ) → get_or (map (λ number. number % 256) numbers) k 0 < 2 ^ 8
remainders_fit [] k = omega arith
remainders_fit (number ∷ numbers) zero = let fits : number % 256 < 256 = omega arith in fits
remainders_fit (number ∷ numbers) (suc k) = remainders_fit numbers k
