-- The text of a moment.
use Rattle.std.proofs.Common.{◌≡◌, ◌++◌, ◌<◌, ◌^◌, ℕ, List, codes, decimal, pos, w64, to_z, sym, subst, ◌∙◌, arith}
use Rattle.std.proofs.lemmas.Int.{to_z_pos}
use Rattle.jiff_core.proofs.SignedLemmas.{signed_arith}
use Rattle.jiff_core.specs.declared.civil.date.Date.{Date}
use Rattle.jiff_core.specs.Date.{epoch_day}
use Rattle.jiff_core.specs.Calendar.{IsEpochDay}
use Rattle.lra_logs.specs.Times.{IsTime, day_of, date_text, clock_text}

-- the text of a moment in the years that dates have
in_years : (moment : ℕ) (d : Date) (text : List ℕ) → epoch_day d ≡ pos (day_of moment)
    → IsEpochDay (pos (day_of moment)) → text ≡ date_text d ++ (codes "T" ++ (clock_text moment ++ codes "Z"))
    → IsTime moment text
in_years moment d text day within is = record {
  spelled = λ _. (d, day, is);
  past =
      λ later. absurd (omega (arith, signed_arith, within.1, later));
}

-- the text of any other moment
past_years : (moment : ℕ) (text : List ℕ) → (IsEpochDay (pos (day_of moment)) → ⊥) → text ≡ decimal moment
    → IsTime moment text
past_years moment text not_within is = record {
  spelled = λ early. absurd
      (not_within (omega (arith, signed_arith), omega (arith, signed_arith, early)));
  past = λ _. is;
}

-- a day is the same signed and unsigned
signed_day : (moment : ℕ) → moment < 2 ^ 64 → to_z w64 (day_of moment) ≡ pos (day_of moment)
signed_day moment small = to_z_pos w64 (day_of moment) (omega (arith, small))

pub spelled_is : (moment : ℕ) (d : Date) (text : List ℕ) → moment < 2 ^ 64 → epoch_day d ≡ to_z w64 (day_of moment)
    → IsEpochDay (to_z w64 (day_of moment))
    → text ≡ date_text d ++ (codes "T" ++ (clock_text moment ++ codes "Z")) → IsTime moment text
spelled_is moment d text small day within is =
    in_years moment d text (day ∙ signed_day moment small) (subst IsEpochDay (signed_day moment small) within) is

pub number_is : (moment : ℕ) (text : List ℕ) → moment < 2 ^ 64 → (IsEpochDay (to_z w64 (day_of moment)) → ⊥) → text
    ≡ decimal moment → IsTime moment text
number_is moment text small not_within is = past_years moment text (λ within. not_within
    (subst IsEpochDay (sym (signed_day moment small)) within)) is
