-- Fifteen hexadecimal digits, as they are written and read.
use Rattle.std.proofs.Common.{◌≡◌, ◌<◌, ◌-◌, ◌^◌, ℕ, zero, suc, false, List, [], ◌∷◌, ◌++◌, length, replicate, refl}
use Rattle.std.proofs.Common.{sym, subst, ap, ◌∙◌, Result, Ok, arith}
use mathlib.Core.List.{append-nil}
use Rattle.std.specs.Char.{digit_value}
use Rattle.std.specs.Result.{OkIff}
use Rattle.std.specs.Fmt.{digits, padded_integral, format_spec, char_count}
use Rattle.std.specs.Str.Parse.{AllDigits, IsNumeral, digits_value, digits_value_after, without_leading_plus}
use Rattle.std.specs.Str.Parse.{ParsesUnsigned}
use Rattle.std.proofs.lemmas.Fmt.{digits_is_IsNumeral}
use Rattle.std.proofs.lemmas.Result.{Ok-from_Ok_iff}
use Rattle.std.proofs.lemmas.Str.Parse.{without_leading_plus_none}
use Rattle.std.proofs.Common.{Some, codes}
use Rattle.std.specs.Str.Pattern.{StripsSuffix, FindsTextSuffix}
use Rattle.std.proofs.lemmas.List.{append_cancel_right}
use Rattle.lra_rotation.specs.Names.{stem, name_of}

-- what `{:015x}` writes
pub written : (i : ℕ) → padded_integral (format_spec 32 0 4 15 (2 ^ 64 - 1)) false [] (digits 16 false i) ≡ stem i
unfolding padded_integral char_count stem
written i = let e : 15 - length (digits 16 false i) - 0 - 0 ≡ 15 - length (digits 16 false i) = omega arith in
    rw (append-nil (digits 16 false i), e) refl

-- leading zeros are digits
zeros_are_digits : (n : ℕ) (ds : List ℕ) → AllDigits 16 ds → AllDigits 16 (replicate n 48 ++ ds)
zeros_are_digits zero ds h = h
zeros_are_digits (suc n) ds h = (omega arith, zeros_are_digits n ds h)

-- leading zeros change no number
zeros_add_nothing : (n : ℕ) (ds : List ℕ) → digits_value_after 16 0 (replicate n 48 ++ ds) ≡ digits_value_after 16 0 ds
zeros_add_nothing zero ds = refl
zeros_add_nothing (suc n) ds = zeros_add_nothing n ds

-- leading zeros don't take a digit away
zeros_keep : (n : ℕ) (ds : List ℕ) → 0 < length ds → 0 < length (replicate n 48 ++ ds)
zeros_keep zero ds h = h
zeros_keep (suc n) ds h = omega arith

-- an instance's digits are a numeral of it
stem_is_numeral : (i : ℕ) → i < 2 ^ 60 → IsNumeral 16 (stem i) × (digits_value 16 (stem i) ≡ i)
unfolding stem
stem_is_numeral i small =
    let d : IsNumeral 16 (digits 16 false i) × (digits_value 16 (digits 16 false i) ≡ i) =
    digits_is_IsNumeral 16 false (omega arith) (omega arith) i (omega arith) in (
      (
        zeros_keep (15 - length (digits 16 false i)) (digits 16 false i) d.0.0,
        zeros_are_digits (15 - length (digits 16 false i)) (digits 16 false i) d.0.1,
      ),
      zeros_add_nothing (15 - length (digits 16 false i)) (digits 16 false i) ∙ d.1,
    )

-- digits begin with no plus
no_plus : (ds : List ℕ) → AllDigits 16 ds → without_leading_plus ds ≡ ds
no_plus [] h = refl
no_plus (c ∷ cs) h = without_leading_plus_none (c ∷ cs)
    (λ (e : c ≡ 43). let k : digit_value 43 < 16 = subst (λ (x : ℕ). digit_value x < 16) e h.0 in omega arith)

-- so the digits are read as the number that was written
pub read_back : {E : Type 0} (i : ℕ) (bs : List ℕ) (r : Result ℕ E) → i < 2 ^ 60 → bs ≡ stem i
    → ParsesUnsigned 64 16 bs r → r ≡ Ok i
read_back {E} i bs r small is h =
    let s : IsNumeral 16 (stem i) × (digits_value 16 (stem i) ≡ i) = stem_is_numeral i small in
    let p : OkIff r (IsNumeral 16 (stem i) × (digits_value 16 (stem i) < 2 ^ 64)) (digits_value 16 (stem i)) =
    subst (λ (l : List ℕ). OkIff r (IsNumeral 16 l × (digits_value 16 l < 2 ^ 64)) (digits_value 16 l))
    (ap without_leading_plus is ∙ no_plus (stem i) s.0.1) h in
    Ok-from_Ok_iff r (IsNumeral 16 (stem i) × (digits_value 16 (stem i) < 2 ^ 64)) (digits_value 16 (stem i)) p
    (s.0, subst (λ (m : ℕ). m < 2 ^ 64) (sym s.1) (omega arith)) ∙ ap (λ (m : ℕ). Ok m) s.1

-- a text whose end is stripped is what is left, and that end
stripped : (name front end : List ℕ) → StripsSuffix (FindsTextSuffix end) name front → name ≡ front ++ end
stripped name front end h = h.1.1 ∙ ap (λ (l : List ℕ). l ++ end) (sym h.2)

-- what is left of a journal's name is its instance's digits
pub left_of_name : (name front : List ℕ) (i : ℕ) → StripsSuffix (FindsTextSuffix (codes ".journal")) name front → name
    ≡ name_of i → front ≡ stem i
left_of_name name front i h e = append_cancel_right front (stem i) (codes ".journal")
    (sym (stripped name front (codes ".journal") h) ∙ e)

-- so the instance that is read is spelled as the name
pub same_name : (name front own : List ℕ) (i instance : ℕ) → StripsSuffix (FindsTextSuffix (codes ".journal")) name
    front → name ≡ name_of i
    → (front ≡ stem i → Some instance ≡ Some i) → own ≡ name_of instance → own ≡ name
same_name name front own i instance h e read spelled = spelled ∙ ap name_of
    (some_is (read (left_of_name name front i h e))) ∙ sym e
  where
    some_is : Some instance ≡ Some i → instance ≡ i
    some_is e = cc
