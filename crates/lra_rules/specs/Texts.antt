-- Numbers and names in texts, and the parts of a text round a byte.
use Rattle.std.specs.Prelude.{ℕ, ◌+◌, ◌-◌, ◌*◌, Bool, not, ◌&&◌, ◌||◌, ◌==◌, nat_le, if◌then◌else◌, List, [], ◌∷◌}
use Rattle.std.specs.Prelude.{Option, Some, None, option_and_then}
use Rattle.std.specs.List.{list_all, list_any, before_last, after_last}
use Rattle.std.specs.Option.{option_map_or}
use Rattle.std.specs.Char.{is_ascii_digit, is_ascii_alphanumeric}

-- the parts of a text before and after the last occurrence of a byte, if it occurs
unfoldable pub at_last : ℕ → List ℕ → Option (List ℕ × List ℕ)
at_last byte text = if list_any (λ b. b == byte) text then Some (
  before_last (λ b. b == byte) text,
  after_last (λ b. b == byte) text,
) else None

-- the host of a host and port: the part before the last colon, or all of the text if it has no colon
abbrev pub host_in : List ℕ → List ℕ
host_in socket = option_map_or (λ parts. parts.0) (at_last 58 socket) socket

-- the part after the last point, or all of the name if it has no point
abbrev pub last_label : List ℕ → List ℕ
last_label name = option_map_or (λ parts. parts.1) (at_last 46 name) name

-- the number `value` with one more digit at its end, if it isn't above `most`
abbrev pub next_number : ℕ → ℕ → ℕ → Option ℕ
next_number most value digit = if is_ascii_digit digit && nat_le (value * 10 + (digit - 48)) most then Some
    (value * 10 + (digit - 48)) else None

-- the number `value` with more digits at its end, if it isn't above `most`
abbrev pub number_after : ℕ → ℕ → List ℕ → Option ℕ
number_after most value [] = Some value
number_after most value (digit ∷ digits) = option_and_then (λ next. number_after most next digits)
    (next_number most value digit)

-- the number that a text of digits alone writes, if it isn't above `most`
unfoldable pub number : ℕ → List ℕ → Option ℕ
number most [] = None
number most (digit ∷ digits) = number_after most 0 (digit ∷ digits)

-- a letter, a digit, `-`, `.` or `_`
abbrev pub is_name_byte : ℕ → Bool
is_name_byte byte = is_ascii_alphanumeric byte || byte == 45 || byte == 46 || byte == 95

-- a text is a host's name: one whose last label is a number is an IPv4 address or no host (URL Standard, section 3.5)
unfoldable pub is_name : List ℕ → Bool
is_name text = list_all is_name_byte text && not (list_all is_ascii_digit (last_label text))
