-- The numbers of actions, by their URIs.
use Rattle.std.specs.Prelude.{ℕ, ◌-◌, List, length, drop, Option, option_map}
use Rattle.std.specs.Int.{w128, from_be_bytes}
use Rattle.uuid.specs.Text.{parsed}

-- the number of the UUID that a text is (RFC 9562, section 4), where it is one
unfoldable pub number_in : List ℕ → Option ℕ
number_in text = option_map (λ bytes. from_be_bytes w128 bytes) (parsed text)

-- the number of the UUID that a URI ends in, where it ends in one
abbrev pub action_in : List ℕ → Option ℕ
action_in uri = number_in (drop (length uri - 36) uri)
