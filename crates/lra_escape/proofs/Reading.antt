-- An escaped text reads back.
use Rattle.std.proofs.Common.{◌≡◌, ℕ, ◌==◌, false, List, [], ◌∷◌, ◌++◌, None, inl, inr, refl, sym, ap, ◌∙◌, subst}
use Rattle.std.proofs.Common.{arith}
use Rattle.std.specs.Prelude.{option_map}
use Rattle.std.proofs.lemmas.Bool.Decides.{eqb_tells}
use Rattle.lra_escape.specs.Escapes.{spelled, escaped, unescaped_in, ReadsBack}

-- the escape of a byte, before a rest, reads as the byte and then what the rest reads as
abbrev Reads : List ℕ → ℕ → Type 0
Reads rest b = unescaped_in None (spelled b ++ rest) ≡ option_map (λ text. b ∷ text) (unescaped_in None rest)

reads_plain : (b : ℕ) (rest : List ℕ) → (b == 60) ≡ false → (b == 62) ≡ false → (b == 38) ≡ false → (b == 34) ≡ false
    → (b == 39) ≡ false → Reads rest b
reads_plain b rest p q r s t = grind arith

reads_byte : (b : ℕ) (rest : List ℕ) → Reads rest b
reads_byte b rest = elim (eqb_tells b 60) [
  | inl h ↦ subst (Reads rest) (sym h.1) refl
  | inr p ↦ elim (eqb_tells b 62) [
    | inl h ↦ subst (Reads rest) (sym h.1) refl
    | inr q ↦ elim (eqb_tells b 38) [
      | inl h ↦ subst (Reads rest) (sym h.1) refl
      | inr r ↦ elim (eqb_tells b 34) [
        | inl h ↦ subst (Reads rest) (sym h.1) refl
        | inr s ↦ elim (eqb_tells b 39) [
          | inl h ↦ subst (Reads rest) (sym h.1) refl
          | inr t ↦ reads_plain b rest p.0 q.0 r.0 s.0 t.0
        ]
      ]
    ]
  ]
]

pub reads_back : ReadsBack
reads_back [] = refl
reads_back (b ∷ text) = reads_byte b (escaped text) ∙ ap (option_map (λ rest. b ∷ rest)) (reads_back text)
