-- The name of a journal's file, as it is written.
use Rattle.std.proofs.Common.{◌≡◌, ◌-◌, ◌^◌, ℕ, false, [], length, refl, arith}
use mathlib.Core.List.{append-nil}
use Rattle.std.specs.Fmt.{digits, padded_integral, format_spec, char_count}
use Rattle.lra_overview.specs.Health.{stem}

-- what `{:015x}` writes
pub written : (i : ℕ) → padded_integral (format_spec 32 0 4 15 (2 ^ 64 - 1)) false [] (digits 16 false i) ≡ stem i
unfolding padded_integral char_count stem
written i = let e : 15 - length (digits 16 false i) - 0 - 0 ≡ 15 - length (digits 16 false i) = omega arith in
    rw (append-nil (digits 16 false i), e) refl
