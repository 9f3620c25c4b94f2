-- The texts that are addresses, and the parts of one. A URL is read by the URL Standard (`parse_url` and `serialize`).
use Rattle.std.specs.Prelude.{ℕ, ◌-◌, Bool, false, not, ◌&&◌, ◌||◌, ◌==◌, nat_lt, nat_le, List, [], length, slice_index}
use Rattle.std.specs.Prelude.{codes, bytes_eq, count_by, Option, None, option_and_then, Result, Ok, Err, if◌then◌else◌}
use Rattle.std.specs.Option.{option_map_or}
use Rattle.std.specs.Result.{result_ok}
use Rattle.std.specs.List.{list_all, list_any}
use Rattle.std.specs.Char.{is_ascii_graphic}
use Rattle.url.specs.declared.error.ParseError.{ParseError}
use Rattle.url.specs.declared.error.ParseError.TheVariants.{OutOfMemory, Overflow}
use Rattle.url.specs.declared.slicing.Position.TheVariants.{BeforeHost, AfterPort, BeforePath, AfterQuery}
use Rattle.url.specs.Ascii.{slash, question_mark, number_sign}
use Rattle.url.specs.Parser.{parse_url}
use Rattle.url.specs.Parts.{Parts, serialize, text_between}
use Rattle.lra_addresses.specs.declared.fault.UriFault.{UriFault}
use Rattle.lra_addresses.specs.declared.fault.UriFault.TheVariants.{NotUrl, NotHttp, TooLong, Memory}

-- ---- which text is an address (this project's choice)

-- the scheme is `http`, and each byte of the text is one from 0x21 to 0x7E
abbrev pub is_http : Parts → Bool
is_http url = bytes_eq url.scheme (codes "http") && list_all is_ascii_graphic (serialize url)

-- the address that a URL is: its text, or what is wrong with it
abbrev pub address_of_url : Parts → Result (List ℕ) UriFault
address_of_url url =
    if not (is_http url) then Err NotHttp
    else (if nat_lt 512 (length (serialize url)) then Err TooLong
    else Ok (serialize url))

-- the same of what the parser gives
abbrev pub address_of_parsed : Result Parts ParseError → Result (List ℕ) UriFault
address_of_parsed (Ok url) = address_of_url url
address_of_parsed (Err error) = Err NotUrl

-- the address that a text stands for, or the first thing that is wrong with it
unfoldable pub address_of : List ℕ → Result (List ℕ) UriFault
address_of text =
    if nat_lt 512 (length text) then Err TooLong else address_of_parsed (parse_url None text)

-- the address is this very text
abbrev pub is_own : List ℕ → Result (List ℕ) UriFault → Bool
is_own text (Ok own) = bytes_eq own text
is_own text (Err fault) = false

-- the text is an address as it stands: it stands for itself
unfoldable pub is_address : List ℕ → Bool
is_address text = is_own text (address_of text)

-- what an error of the parser comes to: a growth that was refused, or a text that is no URL
abbrev pub fault_of : ParseError → UriFault
fault_of OutOfMemory = Memory
fault_of Overflow = Memory
fault_of _ = NotUrl

-- ---- the parts of an address

-- the URL of a text, where it is one
abbrev pub url_of : List ℕ → Option Parts
url_of text = result_ok (parse_url None text)

-- the host, and `:` and the port where there is one (RFC 9110, section 7.2: the value of Host)
unfoldable pub authority_of : List ℕ → List ℕ
authority_of text = option_map_or (λ url. text_between url BeforeHost AfterPort) (url_of text) []

-- the port, where there is one: port 80 is the scheme's own, and is left out
unfoldable pub port_of : List ℕ → Option ℕ
port_of text = option_and_then (λ url. url.port) (url_of text)

-- the path, and `?` and the query where there is one (RFC 9112, section 3.2.1: the origin form of a target)
unfoldable pub target_of : List ℕ → List ℕ
target_of text = option_map_or (λ url. text_between url BeforePath AfterQuery) (url_of text) []

-- ---- the base of a coordinator's URIs

-- the address can be a base (this project's choice): a scheme, an authority and `/`, of at most 400 bytes
abbrev pub is_base : List ℕ → Bool
is_base text =
    slice_index text (length text - 1) == slash && count_by (λ b. b == slash) text == 3
    && not (list_any (λ b. b == question_mark || b == number_sign) text) && nat_le (length text) 400
