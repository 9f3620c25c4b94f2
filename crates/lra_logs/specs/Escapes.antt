-- Texts as they stand in a line.
use Rattle.std.specs.Prelude.{ℕ, ◌/◌, ◌%◌, ◌==◌, List, [], ◌∷◌, ◌++◌, codes, if◌then◌else◌, chars, flat_map}
use Rattle.std.specs.Prelude.{encode_utf8_all}
use Rattle.std.specs.Char.{is_control, digit_char}

-- a character: a control character as two hexadecimal digits, a reversed solidus doubled (this project's choice)
abbrev pub shown_char : ℕ → List ℕ
shown_char c =
    if is_control c then codes "\\x" ++ digit_char (c / 16) ∷ digit_char (c % 16) ∷ []
    else if c == 92 then codes "\\\\"
    else c ∷ []

-- a text, escaped character by character
unfoldable pub escaped : List ℕ → List ℕ
escaped text = encode_utf8_all (flat_map shown_char (chars text))
