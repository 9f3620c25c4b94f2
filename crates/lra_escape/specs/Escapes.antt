-- The escapes of a text in HTML, and how they are read.
use Rattle.std.specs.Prelude.{◌≡◌, ℕ, ◌==◌, Bool, ◌||◌, if◌then◌else◌, List, [], ◌∷◌, ◌++◌, codes, bytes_eq, Option}
use Rattle.std.specs.Prelude.{Some, None, option_map}
use Rattle.std.specs.List.{flat_map}
use Rattle.std.specs.Option.{option_map_or}

-- the escape of a byte: a reference for each of the five that delimit markup and quoted values (HTML, section 13.1.4),
-- and itself for any other
abbrev pub spelled : ℕ → List ℕ
spelled b =
    if b == 60 then codes "&lt;"
    else if b == 62 then codes "&gt;"
    else if b == 38 then codes "&amp;"
    else if b == 34 then codes "&quot;"
    else if b == 39 then codes "&#39;"
    else b ∷ []

-- an escaped text: the escapes of its bytes, one after another
abbrev pub escaped : List ℕ → List ℕ
escaped text = flat_map spelled text

-- the byte that a reference stands for, by its name between `&` and `;`
abbrev pub named : List ℕ → Option ℕ
named name =
    if bytes_eq name (codes "lt") then Some 60
    else if bytes_eq name (codes "gt") then Some 62
    else if bytes_eq name (codes "amp") then Some 38
    else if bytes_eq name (codes "quot") then Some 34
    else if bytes_eq name (codes "#39") then Some 39
    else None

-- whether a byte is a mark that may not stand bare; `&`, which begins a reference, isn't one of these
abbrev pub is_bare : ℕ → Bool
is_bare b = (b == 60) || (b == 62) || (b == 34) || (b == 39)

-- the text that bytes read as, after so much of a reference's name, or outside a reference: nothing if a mark stands
-- bare, or a reference isn't one of the five or isn't ended
abbrev pub unescaped_in : Option (List ℕ) → List ℕ → Option (List ℕ)
unescaped_in None [] = Some []
unescaped_in (Some name) [] = None
unescaped_in None (b ∷ rest) =
    if b == 38 then unescaped_in (Some []) rest
    else if is_bare b then None
    else option_map (λ text. b ∷ text) (unescaped_in None rest)
unescaped_in (Some name) (b ∷ rest) =
    if b == 59 then option_map_or (λ c. option_map (λ text. c ∷ text) (unescaped_in None rest)) (named name) None
    else unescaped_in (Some (name ++ b ∷ [])) rest

-- the text that bytes read as, or nothing
abbrev pub unescaped : List ℕ → Option (List ℕ)
unescaped bytes = unescaped_in None bytes

-- an escaped text reads back as the text
abbrev pub ReadsBack : Type 0
ReadsBack = (text : List ℕ) → unescaped (escaped text) ≡ Some text
