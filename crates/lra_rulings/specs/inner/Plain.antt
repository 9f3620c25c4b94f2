-- The plain form of an address (this project's choice): names with dots between them, and a path of bytes that nothing
-- escapes.
use Rattle.std.specs.Prelude.{◌≡◌, ◌≢◌, ℕ, ◌^◌, ◌<◌, Bool, true, false, not, ◌&&◌, ◌||◌, ◌==◌, nat_le, List, [], ◌∷◌}
use Rattle.std.specs.Prelude.{◌++◌, codes, Option, is_some, option_map, unwrap_or, IfSome, if◌then◌else◌}
use Rattle.std.specs.Fmt.{decimal}
use Rattle.url.specs.Input.{when}
use Rattle.url.specs.Ascii.{dot, hyphen, slash}

-- a lower-case letter
abbrev pub is_letter : ℕ → Bool
is_letter b = nat_le 97 b && nat_le b 122

-- a byte of a name: a lower-case letter, a digit or a hyphen
abbrev pub is_name_byte : ℕ → Bool
is_name_byte b = is_letter b || (nat_le 48 b && nat_le b 57) || b == hyphen

-- a byte of a path that stands for itself wherever it stands, but for a dot
abbrev pub is_path_byte : ℕ → Bool
is_path_byte b = is_name_byte b || (nat_le 65 b && nat_le b 90) || b == dot || b == 95 || b == 126

-- names of which each begins with a letter, and single dots between them; `fresh` is whether a name begins here
unfoldable pub is_host : Bool → List ℕ → Bool
is_host fresh [] = not fresh
is_host fresh (b ∷ bytes) =
    if b == dot then not fresh && is_host true bytes
    else (is_name_byte b && not (fresh && not (is_letter b)) && is_host false bytes)

-- segments, of which none begins with a dot; `fresh` is whether a segment begins here
unfoldable pub is_path : Bool → List ℕ → Bool
is_path fresh [] = true
is_path fresh (b ∷ bytes) =
    if b == slash then is_path true bytes
    else (is_path_byte b && not (fresh && b == dot) && is_path false bytes)

-- the text of a port, where there is one
abbrev pub port_text : Option ℕ → List ℕ
port_text port = when (is_some port) (codes ":") ++ unwrap_or (option_map decimal port) []

-- a port that an address can name: 80 is the scheme's own
abbrev pub IsPort : Option ℕ → Type 0
IsPort port = IfSome port (λ n. (n < 2 ^ 16) × (n ≢ 80))

-- a host, and a port where there is one
pub record IsAuthority (bytes : List ℕ) : Type 0 where
  pub host : List ℕ
  pub port : Option ℕ
  pub is_name : is_host true host ≡ true
  pub is_port : IsPort port
  pub spelled : bytes ≡ host ++ port_text port
