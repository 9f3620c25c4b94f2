-- The values of `traceparent` (Trace Context, level 1, sections 3.2 and 3.2.4).
use Rattle.std.specs.Prelude.{ℕ, ◌==◌, Bool, true, false, not, ◌&&◌, ◌||◌, nat_lt, nat_le, if◌then◌else◌}
use Rattle.std.specs.Prelude.{List, [], ◌∷◌, ◌++◌, length, take, drop, codes, bytes_eq}
use Rattle.std.specs.Prelude.{Option, Some, None, option_and_then}
use Rattle.std.specs.List.{list_all}
use Rattle.std.specs.Char.{is_ascii_digit}
use Rattle.std.specs.Str.{is_utf8}

-- a hexadecimal digit in lower case
abbrev pub is_lower_hex : ℕ → Bool
is_lower_hex b = is_ascii_digit b || (nat_le 97 b && nat_le b 102)

-- the digit 0
abbrev pub is_zero : ℕ → Bool
is_zero b = b == 48

-- the ID of a trace or a span: digits that aren't all 0
abbrev pub is_id : List ℕ → Bool
is_id text = list_all is_lower_hex text && not (list_all is_zero text)

-- a version: `ff` is none
abbrev pub is_version : List ℕ → Bool
is_version text = list_all is_lower_hex text && not (bytes_eq text (codes "ff"))

-- a hyphen and an ID
abbrev pub is_id_part : List ℕ → Bool
is_id_part [] = false
is_id_part (b ∷ rest) = b == 45 && is_id rest

-- a hyphen and flags
abbrev pub is_flag_part : List ℕ → Bool
is_flag_part [] = false
is_flag_part (b ∷ rest) = b == 45 && list_all is_lower_hex rest

-- the ID of a trace, that of a span, and flags, each behind its hyphen
abbrev pub are_parts : List ℕ → List ℕ → List ℕ → Bool
are_parts trace span flags = is_id_part trace && is_id_part span && is_flag_part flags

-- the IDs and the flags of a value, in 53 bytes
abbrev pub is_body : List ℕ → Bool
is_body text = are_parts (take 33 text) (take 17 (drop 33 text)) (drop 17 (drop 33 text))

-- a value of version 00
abbrev pub is_traceparent : List ℕ → Bool
is_traceparent text = length text == 55 && bytes_eq (take 2 text) (codes "00") && is_body (drop 2 text)

-- what may follow the flags: nothing, or a hyphen and more in a version after 00
abbrev pub may_follow : List ℕ → List ℕ → Bool
may_follow version [] = true
may_follow version (b ∷ rest) = b == 45 && not (bytes_eq version (codes "00"))

-- the IDs and the flags of a value, where they, its version and what follows them are valid
abbrev pub checked : List ℕ → List ℕ → List ℕ → Option (List ℕ)
checked version body rest =
    if is_version version && is_body body && may_follow version rest then Some body else None

-- the IDs and the flags of a valid value, of whatever version
abbrev pub body_in : List ℕ → Option (List ℕ)
body_in value = if nat_lt (length value) 55 then None else checked (take 2 value) (take 53 (drop 2 value))
    (drop 53 (drop 2 value))

-- these IDs and flags in version 00: they are ASCII, and so a text
abbrev pub spelled : List ℕ → Option (List ℕ)
spelled body = if is_utf8 body then Some (codes "00" ++ body) else None

-- what is read of a value: the value in version 00, if it is valid
abbrev pub traceparent_of : List ℕ → Option (List ℕ)
traceparent_of value = option_and_then spelled (body_in value)
