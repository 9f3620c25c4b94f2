-- The rest of a text while its lines are read.
use Rattle.std.specs.Prelude.{◌≡◌, ⊤, ℕ, ◌+◌, List, [], ◌∷◌, length, Option, Some, None, Err}
use Rattle.lra_admission.specs.declared.fault.KeysFault.{KeysFault}
use Rattle.lra_admission.specs.declared.fault.KeysFault.TheVariants as fault
use Rattle.lra_admission.specs.Lines.{lines_of, digests_from}

-- the lines that are left, if any text is
abbrev pub lines_left : Option (List ℕ) → List (List ℕ)
lines_left None = []
lines_left (Some text) = lines_of text

-- the length of what is left: more than 0 if that is an empty text
abbrev pub size_left : Option (List ℕ) → ℕ
size_left None = 0
size_left (Some text) = length text + 1

-- a line with this number leads from the digests before it to those after it: whatever lines follow, what is read is
-- the same
abbrev pub Takes : List (List ℕ) → List (List ℕ) → ℕ → List ℕ → Type 0
Takes before after number line = (lines : List (List ℕ)) → digests_from after (number + 1) lines
    ≡ digests_from before number (line ∷ lines)

-- why a line is refused: it is wrong, whatever lines follow, or memory is refused
abbrev pub FailsAt : List (List ℕ) → ℕ → List ℕ → KeysFault → Type 0
FailsAt before number line (fault.Line n) = (n ≡ number) × ((lines : List (List ℕ))
    → digests_from before number (line ∷ lines) ≡ Err number)
FailsAt before number line fault.Memory = ⊤
FailsAt before number line _ = ⊥
