-- Pieces of texts.
use Rattle.std.specs.Prelude.{ℕ, ◌==◌, Bool, if◌then◌else◌, nat_eq, List, [], length, drop, Option, Some, None}
use Rattle.std.specs.List.{after_first, starts_with}
use Rattle.std.specs.Option.{option_map_or}
use Rattle.std.specs.Str.{is_utf8}
use Rattle.lra_front.specs.Routes.{is_slash}

-- a question mark, which begins a query (RFC 3986, section 3.4)
abbrev pub is_mark : ℕ → Bool
is_mark b = b == 63

-- what begins the URI of a link (RFC 8288, section 3)
abbrev pub is_open : ℕ → Bool
is_open b = b == 60

-- what ends that URI
abbrev pub is_close : ℕ → Bool
is_close b = b == 62

-- what begins a parameter of a link (RFC 8288, section 3)
abbrev pub is_semicolon : ℕ → Bool
is_semicolon b = b == 59

-- the text that bytes are, or nothing if they aren't UTF-8
abbrev pub text_of : List ℕ → List ℕ
text_of bytes = if is_utf8 bytes then bytes else []

-- what follows a prefix in a text, if the text begins with it
abbrev pub stripped : List ℕ → List ℕ → Option (List ℕ)
stripped front text = if starts_with nat_eq text front then Some (drop (length front) text) else None

-- the last part of an identifier, if a text is one under a base; else the text
abbrev pub last_part : List ℕ → List ℕ → List ℕ
last_part base text = option_map_or (after_first is_slash) (stripped base text) text
