-- The instance of which an identifier is.
use Rattle.std.specs.Prelude.{ℕ, ◌+◌, ◌-◌, ◌*◌, ◌/◌, ◌%◌, ◌^◌, List, length, drop, Option, option_map}
use Rattle.std.specs.Int.{w128, from_be_bytes}
use Rattle.uuid.specs.Text.{parsed}

-- the instance of a UUID, which is one number: the 48 bits before those of the version, and the 12 after them
unfoldable pub instance_bits : ℕ → ℕ
instance_bits x = x / 2 ^ 80 * 2 ^ 12 + x / 2 ^ 64 % 2 ^ 12

-- the instance of the UUID that a text is, in any of its forms, where it is one (RFC 9562, section 4)
unfoldable pub instance_in : List ℕ → Option ℕ
instance_in text = option_map (λ bytes. instance_bits (from_be_bytes w128 bytes)) (parsed text)

-- what a URI ends in: as many characters as an identifier has, or all where it has fewer
abbrev pub end_of : List ℕ → List ℕ
end_of uri = drop (length uri - 36) uri

-- the instance of the UUID that a URI ends in, where it ends in one
abbrev pub instance_at_end : List ℕ → Option ℕ
instance_at_end uri = instance_in (end_of uri)
