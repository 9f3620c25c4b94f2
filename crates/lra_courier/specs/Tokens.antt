-- Bearer tokens (RFC 6750, section 2.1).
use Rattle.std.specs.Prelude.{ℕ, ◌==◌, nat_lt, nat_le, Bool, ◌&&◌, ◌||◌, if◌then◌else◌, List, [], ◌∷◌, ◌++◌, length}
use Rattle.std.specs.Prelude.{codes}
use Rattle.std.specs.List.{list_all}
use Rattle.std.specs.Char.{is_ascii_alphanumeric}

-- a byte of a token, before the padding that may end it: a letter, a digit, or one of - . _ ~ + /
abbrev pub is_token_byte : ℕ → Bool
is_token_byte b = is_ascii_alphanumeric b || b == 45 || b == 46 || b == 95 || b == 126 || b == 43 || b == 47

-- what follows the bytes of a token that a text begins with
abbrev pub skip_token : List ℕ → List ℕ
skip_token [] = []
skip_token (b ∷ rest) = if is_token_byte b then skip_token rest else b ∷ rest

-- a byte of the padding that may end a token
abbrev pub is_padding : ℕ → Bool
is_padding b = b == 61

-- a text is a token: one byte of it at least, then any padding (RFC 6750, b64token); 4,096 bytes at most are this
-- project's choice
abbrev pub is_token : List ℕ → Bool
is_token text = nat_lt (length (skip_token text)) (length text) && nat_le (length text) 4096
    && list_all is_padding (skip_token text)

-- the credentials by which a request gives a token (RFC 6750, section 2.1)
abbrev pub credentials_of : List ℕ → List ℕ
credentials_of token = codes "Bearer " ++ token
