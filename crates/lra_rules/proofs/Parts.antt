-- The parts of a text round a byte, and texts that a reader reads whole.
use Rattle.std.proofs.Common.{◌≡◌, ◌≢◌, ℕ, ◌+◌, ◌-◌, ◌<◌, ◌≤◌, ◌==◌, true, false, not, List, [], ◌++◌, length, take}
use Rattle.std.proofs.Common.{drop, get_or, All, Option, Some, None, refl, sym, ap, ◌∙◌, subst, ⊎_elim, eq-eqb, ne_eqb}
use Rattle.std.proofs.Common.{arith}
use Rattle.std.specs.List.{list_any}
use Rattle.std.specs.Net.Reader.{whole_value}
use Rattle.std.proofs.lemmas.Bool.{cases_Bool}
use Rattle.std.proofs.lemmas.Bool.Decides.{nat_tests}
use Rattle.std.proofs.lemmas.List.{append-nil, nil_from_length}
use Rattle.std.proofs.lemmas.List.Folds.{list_any_at, list_any_none}
use Rattle.std.proofs.lemmas.List.Sums.{suffix_len_is}
use Rattle.std.proofs.lemmas.List.Elements.{All-weaker}
use Rattle.lra_rules.specs.Texts.{at_last}

-- the byte's last occurrence is at a position
pub at_last_some : (byte : ℕ) (xs : List ℕ) (i : ℕ) → i < length xs → get_or xs i 0 ≡ byte
    → ((k : ℕ) → i + 1 ≤ k → k < length xs → get_or xs k 0 ≢ byte)
    → at_last byte xs ≡ Some (take i xs, drop (i + 1) xs)
unfolding at_last
at_last_some byte xs i inside here after =
    let there : list_any (λ b. b == byte) xs ≡ true = list_any_at (λ b. b == byte) xs i 0 inside (eq-eqb _ _ here) in
    let others = suffix_len_is (λ b. not (b == byte)) xs (i + 1) 0 (omega arith)
    (λ k low high. ap not (ne_eqb _ _ (after k low high))) (λ _. ap (λ j. not (get_or xs j 0 == byte))
    (omega arith) ∙ ap not (eq-eqb _ _ here)) in
    let front : length xs - (length xs - (i + 1)) - 1 ≡ i = omega arith in
    let back : length xs - (length xs - (i + 1)) ≡ i + 1 = omega arith in
    rw (there, others, front, back) refl

-- the byte doesn't occur
pub at_last_none : (byte : ℕ) (xs : List ℕ) → All (λ b. b ≢ byte) xs → at_last byte xs ≡ None
unfolding at_last
at_last_none byte xs none =
    let there : list_any (λ b. b == byte) xs ≡ false = list_any_none (λ b. b == byte) xs
    (All-weaker (λ b. b ≢ byte) (λ b. (b == byte) ≡ false) (λ b other. ne_eqb _ _ other) xs none) in
    rw there refl

-- ---- readers

module _ (read : List ℕ → Option (List ℕ × List ℕ)) (Spells : List ℕ → List ℕ → Type 0)
    (complete : (text value : List ℕ) → Spells text value → read (text ++ []) ≡ Some (value, []))
    (sound : (text value rest : List ℕ) → read text ≡ Some (value, rest) → (front : List ℕ) × (text ≡ front ++ rest)
    × Spells front value) where
  -- a text that spells a value is read whole
  pub whole_some : (text value : List ℕ) → Spells text value → whole_value (read text) ≡ Some value
  whole_some text value spelled = ap whole_value (ap read (sym (append-nil text)) ∙ complete text value spelled)

  ended : (text value rest : List ℕ) → read text ≡ Some (value, rest) → length rest ≡ 0 → Spells text value
  ended text value rest e none =
      let (front, is, spelled) = sound text value rest e in
      subst (λ t. Spells t value) (sym (is ∙ ap (λ r. front ++ r) (nil_from_length rest none) ∙ append-nil front))
      spelled

  none_by : (text : List ℕ) (o : Option (List ℕ × List ℕ)) → read text ≡ o → ((value : List ℕ) → ¬ (Spells text value))
      → whole_value o ≡ None
  none_by text None e never = refl
  none_by text (Some (value, rest)) e never =
      ⊎_elim
      (λ done. absurd (never value (ended text value rest e (grind (arith, nat_tests)))))
      (λ more. rw more refl)
      (cases_Bool (length rest == 0))

  -- a text that spells no value isn't
  pub whole_none : (text : List ℕ) → ((value : List ℕ) → ¬ (Spells text value)) → whole_value (read text) ≡ None
  whole_none text never = none_by text (read text) refl never
