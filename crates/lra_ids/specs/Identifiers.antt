-- The UUIDs of actions and members, and the URIs that are spelled from them.
use Rattle.std.specs.Prelude.{◌≡◌, ◌<◌, ◌≤◌, ℕ, ◌+◌, ◌*◌, ◌/◌, ◌%◌, ◌^◌, List, ◌++◌, codes}
use Rattle.std.specs.Int.{w128, to_be_bytes}
use Rattle.uuid.specs.Text.{hyphenated_text, lower}

-- the UUID of n as one number, greatest bit first (RFC 9562, section 5.8, version 8): the upper 48 of the instance's
-- 60 bits, the bits 1000 of the version, its lower 12 bits, the bits 10 of the variant, and n in 62 bits. Which
-- custom bits are the instance's and which are n's is this project's choice.
unfoldable pub id_number : ℕ → ℕ → ℕ
id_number instance n =
    instance / 2 ^ 12 * 2 ^ 80 + 8 * 2 ^ 76 + instance % 2 ^ 12 * 2 ^ 64 + 2 * 2 ^ 62 + n

-- the sixteen bytes of the UUID of n
unfoldable pub id_bytes : ℕ → ℕ → List ℕ
id_bytes instance n = to_be_bytes w128 (id_number instance n)

-- the text of the UUID of n: 36 characters, in lower case and with hyphens (RFC 9562, section 4)
unfoldable pub id_text : ℕ → ℕ → List ℕ
id_text instance n = hyphenated_text lower (id_bytes instance n)

-- the URI of action n below a base (this project's choice)
abbrev pub action_uri : ℕ → List ℕ → ℕ → List ℕ
action_uri instance base n = base ++ codes "lra-coordinator/" ++ id_text instance n

-- the recovery URI of member n below a base (this project's choice)
abbrev pub recovery_uri : ℕ → List ℕ → ℕ → List ℕ
recovery_uri instance base n = base ++ codes "lra-recovery/" ++ id_text instance n

-- the text is the one that is spelled from n, a number that an identifier can have
abbrev pub IsSpelling : (ℕ → List ℕ) → List ℕ → ℕ → Type 0
IsSpelling spelled text n = (1 ≤ n) × (n < 2 ^ 62) × (text ≡ spelled n)
