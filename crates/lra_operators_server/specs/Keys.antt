-- The keys that operators give.
use Rattle.std.specs.Prelude.{ℕ, nat_le, nat_lt, Bool, ◌&&◌, List, length}
use Rattle.std.specs.List.{list_all}

-- a byte that can stand in a key: a visible character of ASCII, or a space
abbrev pub is_shown : ℕ → Bool
is_shown b = nat_le 0x20 b && nat_le b 0x7E

-- a text that can be a key, and stand in the head of a request: 1 to 1,023 such bytes
abbrev pub is_key : List ℕ → Bool
is_key text = nat_lt 0 (length text) && nat_lt (length text) 1024 && list_all is_shown text
