-- Streams of bytes that may be known, and bytes that are read line by line.
use Rattle.std.specs.Prelude.{◌≡◌, ℕ, ◌==◌, false, List, ◌++◌, Option, Some, None, ⊤}
use Rattle.std.specs.List.{list_any}

-- A relation between the bytes of a stream before a call and after it, where they are known: a stream that was known
-- stays so.
abbrev pub IfBothKnown : Option (List ℕ) → Option (List ℕ) → (List ℕ → List ℕ → Type 0) → Type 0
IfBothKnown None new P = ⊤
IfBothKnown (Some xs) None P = ⊥
IfBothKnown (Some xs) (Some ys) P = P xs ys

-- Such a text is a prefix of the bytes, and includes their last line feed: none comes after it.
pub record UpToLine (P : List ℕ → Type 0) (bytes : List ℕ) : Type 0 where
  pub front : List ℕ
  pub back : List ℕ
  pub whole : bytes ≡ front ++ back
  pub none : list_any (λ b. b == 10) back ≡ false
  pub there : P front
