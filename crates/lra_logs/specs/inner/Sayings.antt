-- Lines that a service prints anyway, in the form that a log has them.
use Rattle.std.specs.Prelude.{◌≡◌, ◌≢◌, ◌⊎◌, ℕ, List, ◌++◌, codes}

-- a text without a suffix, if it has it
abbrev pub HasLostEnd : List ℕ → List ℕ → List ℕ → Type 0
HasLostEnd end text bare = (text ≡ bare ++ end) ⊎ (((front : List ℕ) → text ≢ front ++ end) × (bare ≡ text))

-- a text without a prefix, if it has it
abbrev pub HasLostFront : List ℕ → List ℕ → List ℕ → Type 0
HasLostFront front text bare = (text ≡ front ++ bare) ⊎ (((rest : List ℕ) → text ≢ front ++ rest) × (bare ≡ text))

-- the message of a line, without the program's name and the line feed
abbrev pub Says : List ℕ → List ℕ → Type 0
Says line said = (text : List ℕ) × HasLostEnd (codes "\n") line text × HasLostFront (codes "lra: ") text said
