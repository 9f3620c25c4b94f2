-- The lines of a file of keys: a name and the SHA-256 of a secret each.
use Rattle.std.specs.Prelude.{ℕ, ◌+◌, ◌==◌, Bool, true, false, if◌then◌else◌, List, [], ◌∷◌, ◌++◌, Option, None, Result}
use Rattle.std.specs.Prelude.{Ok, Err}
use Rattle.std.specs.List.{slice_split}
use Rattle.std.specs.Option.{option_map_or}
use Rattle.std.specs.Result.{result_ok}
use Rattle.hex.specs.Hex.{decode_sized}

-- a line feed
abbrev pub is_feed : ℕ → Bool
is_feed b = b == 10

-- a space
abbrev pub is_space : ℕ → Bool
is_space b = b == 32

-- the lines of a text: what stands between its line feeds
abbrev pub lines_of : List ℕ → List (List ℕ)
lines_of text = slice_split is_feed text

-- a line that says nothing: it is empty, or begins with `#`
abbrev pub is_remark : List ℕ → Bool
is_remark [] = true
is_remark (b ∷ rest) = b == 35

-- what follows the leading spaces
abbrev pub skip_spaces : List ℕ → List ℕ
skip_spaces [] = []
skip_spaces (b ∷ rest) = if is_space b then skip_spaces rest else b ∷ rest

-- what follows the name that a text begins with
abbrev pub skip_name : List ℕ → List ℕ
skip_name [] = []
skip_name (b ∷ rest) = if is_space b then b ∷ rest else skip_name rest

-- the text begins with a space
abbrev pub begins_with_space : List ℕ → Bool
begins_with_space [] = false
begins_with_space (b ∷ rest) = is_space b

-- the digest that a line names, if it is a name, spaces and 64 hexadecimal digits
abbrev pub digest_in : List ℕ → Option (List ℕ)
digest_in line = if begins_with_space line then None else result_ok (decode_sized (skip_spaces (skip_name line)) 32)

-- the digests before a line of some number, and those that it and the lines after it name; or the number of the first
-- line that says something and names none
unfoldable pub digests_from : List (List ℕ) → ℕ → List (List ℕ) → Result (List (List ℕ)) ℕ
digests_from before number [] = Ok before
digests_from before number (line ∷ lines) =
    if is_remark line then digests_from before (number + 1) lines
    else option_map_or (λ digest. digests_from (before ++ digest ∷ []) (number + 1) lines) (digest_in line) (Err number)

-- the digests that a text names, or the number of the first line that is wrong
abbrev pub digests_in : List ℕ → Result (List (List ℕ)) ℕ
digests_in text = digests_from [] 1 (lines_of text)
