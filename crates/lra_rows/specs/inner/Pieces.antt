-- What a buffer has of five addresses.
use Rattle.std.specs.Prelude.{ℕ, ◌-◌, ◌≤◌, List, [], ◌∷◌, length, take, drop, Option, Some, None}
use Rattle.std.specs.Str.{IsUtf8}

-- what stands in a buffer of an address: a mark and its bytes, or nothing
abbrev pub piece : Option (List ℕ) → List ℕ
piece None = []
piece (Some text) = 1 ∷ text

-- the address of which this stands there
abbrev pub read : List ℕ → Option (List ℕ)
read [] = None
read (mark ∷ text) = Some text

-- what a buffer has from one place to another
abbrev pub part : ℕ → ℕ → List ℕ → List ℕ
part begin end bytes = take (end - begin) (drop begin bytes)

-- an address that may be there is a text
abbrev pub IsText : Option (List ℕ) → Type 0
IsText None = Unit {0}
IsText (Some text) = IsUtf8 text

-- the second address begins at one place, the third at the next, and so on, and each is a text
pub record IsPacked (complete status forget after : ℕ) (bytes : List ℕ) : Type 0 where
  pub second : complete ≤ status
  pub third : status ≤ forget
  pub fourth : forget ≤ after
  pub fifth : after ≤ length bytes
  pub compensate_text : IsText (read (part 0 complete bytes))
  pub complete_text : IsText (read (part complete status bytes))
  pub status_text : IsText (read (part status forget bytes))
  pub forget_text : IsText (read (part forget after bytes))
  pub after_text : IsText (read (part after (length bytes) bytes))
