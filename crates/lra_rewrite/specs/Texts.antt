-- Identifiers under an older base.
use Rattle.std.specs.Prelude.{ℕ, if◌then◌else◌, is_some, List, [], ◌∷◌, ◌++◌, Option, None, option_map}
use Rattle.std.specs.Option.{option_or}
use Rattle.lra_rewrite.specs.Paths.{served_behind}

-- what follows the base in a text, for the first of several bases that the text is under: it begins with the base, and
-- goes on as a path that is served
abbrev pub behind_any : List (List ℕ) → List ℕ → Option (List ℕ)
behind_any [] text = None
behind_any (base ∷ bases) text = option_or (served_behind base text) (behind_any bases text)

-- the text that an identifier means, if that is another (this project's choice): it is under an older base, and not
-- under the present base, which then replaces the first older one that it is under
unfoldable pub other_text : List ℕ → List (List ℕ) → List ℕ → Option (List ℕ)
other_text base olders text = if is_some (served_behind base text) then None else option_map (λ rest. base ++ rest)
    (behind_any olders text)
