-- Lines that are kept in a page before they are written.
use Rattle.std.specs.Prelude.{◌≡◌, ℕ, List, ◌++◌, Option}
use Rattle.std.specs.Io.KnownBytes.{Appends}

-- a text was added: the page and the text are what was written and the page now
abbrev pub IsPaged : Option (List ℕ) → Option (List ℕ) → List ℕ → List ℕ → List ℕ → Type 0
IsPaged before after page next text = (written : List ℕ) × Appends before after written
    × (page ++ text ≡ written ++ next)
