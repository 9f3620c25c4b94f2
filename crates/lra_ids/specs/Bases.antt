-- What the URIs of a coordinator begin with. A URL is read by the URL Standard (`parse_url` and `serialize`).
use Rattle.std.specs.Prelude.{ℕ, ◌-◌, Bool, not, ◌&&◌, ◌||◌, ◌==◌, nat_le, List, ◌++◌, length, slice_index, codes}
use Rattle.std.specs.Prelude.{bytes_eq, Option, Some, None, option_and_then, if◌then◌else◌}
use Rattle.std.specs.List.{list_all, list_any}
use Rattle.std.specs.Char.{is_ascii_graphic}
use Rattle.url.specs.Ascii.{slash, question_mark, number_sign}
use Rattle.url.specs.Parts.{Parts, serialize}
use Rattle.lra_addresses.specs.Addresses.{is_address, is_base, url_of}

-- the scheme is `http` or `https`, no user is named, and each byte of the text is one from 0x21 to 0x7E
abbrev pub is_web : Parts → Bool
is_web url =
    (bytes_eq url.scheme (codes "http") || bytes_eq url.scheme (codes "https"))
    && length url.username == 0 && length url.password == 0 && list_all is_ascii_graphic (serialize url)

-- the paths of identifiers can be appended to the text: it ends in `/`, and has no query, no fragment, and at most 400
-- bytes
abbrev pub is_stem : List ℕ → Bool
is_stem text =
    slice_index text (length text - 1) == slash
    && not (list_any (λ b. b == question_mark || b == number_sign) text) && nat_le (length text) 400

-- the base that a URL is (this project's choice)
abbrev pub base_of_url : Parts → Option (List ℕ)
base_of_url url = if is_web url && is_stem (serialize url) then Some (serialize url) else None

-- the base that a text stands for
unfoldable pub base_for : List ℕ → Option (List ℕ)
base_for text = option_and_then base_of_url (url_of text)

-- `http://`, the address and `/`
abbrev pub base_text : List ℕ → List ℕ
base_text address = codes "http://" ++ address ++ codes "/"

-- the text is a base as it stands: an address that stands for itself, and that can be a base
abbrev pub is_own_base : List ℕ → Bool
is_own_base text = is_address text && is_base text
