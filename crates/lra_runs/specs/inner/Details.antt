-- The detail of a refusal.
use Rattle.std.specs.Prelude.{ℕ, List, [], ◌++◌, codes, Option, Some, None}

-- a detail with a space before it, if there is one
abbrev pub detail_text : Option (List ℕ) → List ℕ
detail_text None = []
detail_text (Some text) = codes " " ++ text
