-- The names of hosts by which a service is called, and what requests say of them.
use Rattle.std.specs.Prelude.{ℕ, ◌-◌, ◌==◌, nat_lt, nat_le, Bool, true, false, not, ◌&&◌, ◌||◌, if◌then◌else◌, List, []}
use Rattle.std.specs.Prelude.{◌∷◌, length, take, drop, codes, bytes_eq, Option, Some, None}
use Rattle.std.specs.List.{list_any, list_all}
use Rattle.std.specs.Option.{option_map_or}
use Rattle.std.specs.Str.{str_eq_ignore_ascii_case}
use Rattle.std.specs.Char.{is_ascii_alphabetic, is_ascii_alphanumeric, is_ascii_digit}

-- ---- a host and its port (RFC 3986, section 3.2)

-- what follows the first closing bracket
abbrev pub behind_bracket : List ℕ → List ℕ
behind_bracket [] = []
behind_bracket (b ∷ rest) = if b == 93 then rest else behind_bracket rest

-- a text from its first colon on
abbrev pub from_colon : List ℕ → List ℕ
from_colon [] = []
from_colon (b ∷ rest) = if b == 58 then b ∷ rest else from_colon rest

-- a text begins with a bracket, as an address of version 6 does
abbrev pub is_bracketed : List ℕ → Bool
is_bracketed [] = false
is_bracketed (b ∷ rest) = b == 91

-- what follows the host that a text begins with
abbrev pub behind_host : List ℕ → List ℕ
behind_host text = if is_bracketed text then behind_bracket text else from_colon text

-- nothing, or a colon and a port: digits, if any
abbrev pub is_any_port : List ℕ → Bool
is_any_port [] = true
is_any_port (b ∷ rest) = b == 58 && list_all is_ascii_digit rest

-- ---- names

-- a closing bracket
abbrev pub is_closing : ℕ → Bool
is_closing b = b == 93

-- a byte of a name, after the bracket that may begin it: a letter, a digit, or one of - . _ : ]
abbrev pub is_name_byte : ℕ → Bool
is_name_byte b = is_ascii_alphanumeric b || b == 45 || b == 46 || b == 95 || b == 58 || is_closing b

-- a text without the bracket that may begin it
abbrev pub behind_opening : List ℕ → List ℕ
behind_opening [] = []
behind_opening (b ∷ rest) = if b == 91 then rest else b ∷ rest

-- a bracket is closed in a text where one begins it, and nowhere else
abbrev pub is_closed : List ℕ → Bool
is_closed text = if is_bracketed text then list_any is_closing text else not (list_any is_closing text)

-- what may follow the host of a name: nothing, or a colon and the one to five digits of a port
abbrev pub is_own_port : List ℕ → Bool
is_own_port rest = is_any_port rest && not (length rest == 1) && nat_le (length rest) 6

-- a text may be a host, as far as its bytes say
abbrev pub is_spelled : List ℕ → Bool
is_spelled text = list_all is_name_byte (behind_opening text) && is_closed text

-- a text is a name: a host, with a port or without
abbrev pub is_name : List ℕ → Bool
is_name text = is_spelled text && nat_lt (length (behind_host text)) (length text) && is_own_port (behind_host text)

-- what may follow a name: nothing if it has a port, else any port
abbrev pub may_follow : List ℕ → List ℕ → Bool
may_follow name rest = if length (behind_host name) == 0 then is_any_port rest else length rest == 0

-- a host, with its port or without, is the one of that name, whatever the case of its letters
abbrev pub is_named : List ℕ → List ℕ → Bool
is_named name host = str_eq_ignore_ascii_case name (take (length name) host)
    && may_follow name (drop (length name) host)

-- one of the names is that of a host
abbrev pub is_own_host : List (List ℕ) → List ℕ → Bool
is_own_host names host = list_any (λ name. is_named name host) names

-- ---- origins (RFC 6454, section 6.2)

-- a byte of a scheme after its first
abbrev pub is_scheme_byte : ℕ → Bool
is_scheme_byte b = is_ascii_alphanumeric b || b == 43 || b == 45 || b == 46

-- a scheme (RFC 3986, section 3.1)
abbrev pub is_scheme : List ℕ → Bool
is_scheme [] = false
is_scheme (b ∷ rest) = is_ascii_alphabetic b && list_all is_scheme_byte rest

-- what stands before the first colon
abbrev pub before_colon : List ℕ → List ℕ
before_colon text = take (length text - length (from_colon text)) text

-- the host of an origin, with its port or without: what follows a scheme and `://`
abbrev pub host_in : List ℕ → Option (List ℕ)
host_in origin =
    if is_scheme (before_colon origin) && bytes_eq (take 3 (from_colon origin)) (codes "://") then Some
    (drop 3 (from_colon origin))
    else None

-- an origin is of one of the names
abbrev pub is_own_origin : List (List ℕ) → List ℕ → Bool
is_own_origin names origin = option_map_or (is_own_host names) (host_in origin) false
