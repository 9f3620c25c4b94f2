-- Numbers with zeros before them, as they are written.
use Rattle.std.proofs.Common.{◌≡◌, ◌-◌, ◌^◌, ℕ, false, [], length, refl, arith}
use Rattle.std.specs.Fmt.{decimal, digits, padded_integral, format_spec, char_count}
use mathlib.Core.List.{append-nil}
use Rattle.lra_logs.specs.Times.{wide}
use Rattle.lra_logs.specs.Events.{stem}

-- what `{:02}` and the like write
pub wide_written : (k n : ℕ) → padded_integral (format_spec 32 0 4 k (2 ^ 64 - 1)) false [] (decimal n) ≡ wide k n
unfolding padded_integral char_count
wide_written k n = let e : k - length (decimal n) - 0 - 0 ≡ k - length (decimal n) = omega arith in
    rw (append-nil (decimal n), e) refl

-- what `{:015x}` writes
pub stem_written : (i : ℕ) → padded_integral (format_spec 32 0 4 15 (2 ^ 64 - 1)) false [] (digits 16 false i) ≡ stem i
unfolding padded_integral char_count
stem_written i = let e : 15 - length (digits 16 false i) - 0 - 0 ≡ 15 - length (digits 16 false i) = omega arith in
    rw (append-nil (digits 16 false i), e) refl
