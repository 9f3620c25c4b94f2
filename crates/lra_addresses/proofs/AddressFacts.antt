-- What an address is known to be, and which URLs are addresses.
use Rattle.std.proofs.Common.{◌≡◌, ◌≢◌, ◌⊎◌, inl, inr, ℕ, ◌≤◌, ◌<◌, true, false, not, List, All, ◌∷◌, ◌++◌, ◌+◌, drop}
use Rattle.std.proofs.Common.{length-append, length, None, Ok, Err, sym, refl, ap, ◌∙◌, subst, arith}
use Rattle.std.specs.Prelude.{codes, bytes_eq, nat_lt, Result}
use Rattle.std.specs.List.{list_all, concat}
use Rattle.std.specs.Char.{is_ascii_graphic}
use Rattle.std.proofs.lemmas.Bool.{cond_both, cond-true, cond-false, and_parts, not-false, ltb-false, not_from_true}
use Rattle.std.proofs.lemmas.Bool.{not_from_false, false_from_ne_true}
use Rattle.std.proofs.lemmas.Bool.Decides.{nat_tests}
use Rattle.std.specs.Str.{IsUtf8}
use Rattle.std.proofs.lemmas.Str.{IsUtf8-from_ascii}
use Rattle.std.proofs.lemmas.Str.Ascii.{IsAscii-from_all}
use Rattle.std.proofs.lemmas.List.Elements.{All-weaker}
use Rattle.url.proofs.InputLemmas.{Passes, All_from_list_all}
use Rattle.std.proofs.lemmas.Slice.Eq.{bytes_eq-Decides}
use Rattle.url.specs.declared.error.ParseError.{ParseError}
use Rattle.url.specs.declared.error.ParseError.TheVariants.{OutOfMemory, Overflow}
use Rattle.url.specs.Parser.{parse_url, IsOutOfRoom}
use Rattle.url.specs.Parts.{Parts, has_authority, pieces, serialize, IsValid}
use Rattle.url.specs.Scheme.{scheme_type}
use Rattle.url.proofs.Theorems.{parse_url-serialize_special}
use Rattle.lra_addresses.proofs.ParsedValid.{http_kind, parse_url-valid}
use Rattle.lra_addresses.specs.declared.fault.UriFault.{UriFault}
use Rattle.lra_addresses.specs.declared.fault.UriFault.TheVariants.{NotUrl, NotHttp, TooLong, Memory}
use Rattle.lra_addresses.specs.Addresses.{fault_of, is_http, address_of_url, address_of_parsed, address_of, is_own}
use Rattle.lra_addresses.specs.Addresses.{is_address}
use Rattle.lra_addresses.specs.inner.Urls.{IsAddressUrl}

-- what is known of an address text
pub record IsFit (text : List ℕ) : Type 0 where
  pub graphic : list_all is_ascii_graphic text ≡ true
  pub long : 5 ≤ length text
  pub short : length text ≤ 512

-- two texts with a byte between them are longer than the first
longer : (scheme rest : List ℕ) (colon : ℕ) → length scheme + 1 ≤ length (scheme ++ (colon ∷ rest))
longer scheme rest colon = omega (arith, length-append scheme (colon ∷ rest))

-- the text of a URL begins with its scheme and a colon
serialize-long : (url : Parts) → length url.scheme + 1 ≤ length (serialize url)
serialize-long url =
    cond_both (has_authority url) (codes "://") (codes ":") (λ colon. length url.scheme + 1
    ≤ length (concat (url.scheme ∷ colon ∷ drop 2 (pieces url))))
    (λ _. longer url.scheme _ 58) (λ _. longer url.scheme _ 58)

-- a text that is the address of a URL fits, then of what a parser gave, then of itself
own_url : (text : List ℕ) (url : Parts) → is_own text (address_of_url url) ≡ true → IsFit text
own_url text url =
    cond_both (not (is_http url)) (Err NotHttp) _ (λ r. is_own text r ≡ true → IsFit text) (λ _ h. cc) λ http.
    cond_both (nat_lt 512 (length (serialize url))) (Err TooLong) (Ok (serialize url))
    (λ r. is_own text r ≡ true → IsFit text) (λ _ h. cc) λ short h.
    let same = (bytes_eq-Decides (serialize url) text).0 h in
    let (scheme, graphic) = and_parts (bytes_eq url.scheme (codes "http")) _ (not-false _ http) in
    let four : length url.scheme ≡ 4 = ap length ((bytes_eq-Decides url.scheme (codes "http")).0 scheme) in
    subst IsFit same (record {
      graphic = graphic;
      long = omega (arith, four, serialize-long url);
      short =
          ltb-false _ _ short;
    })

own_parsed : (text : List ℕ) (parsed : Result Parts ParseError) → is_own text (address_of_parsed parsed) ≡ true
    → IsFit text
own_parsed text (Ok url) h = own_url text url h
own_parsed text (Err error) h = cc

pub is_address-fit : (text : List ℕ) → is_address text ≡ true → IsFit text
unfolding is_address address_of
is_address-fit text =
    cond_both (nat_lt 512 (length text)) (Err TooLong) _ (λ r. is_own text r ≡ true → IsFit text) (λ _ h. cc)
    λ _ h. own_parsed text (parse_url None text) h

-- the text of an `http` URL parses to that URL
pub parse_url-own : (url : Parts) → IsValid url → url.scheme ≡ codes "http" → parse_url None (serialize url) ≡ Ok url
parse_url-own url valid scheme = parse_url-serialize_special url None valid (ap scheme_type scheme ∙ http_kind)

-- ---- the cases of `address_of`, one by one

pub address_of-long : (text : List ℕ) → 512 < length text → address_of text ≡ Err TooLong
unfolding address_of
address_of-long text long =
    let beyond : nat_lt 512 (length text) ≡ true = grind (arith, nat_tests) in cond-true _ _ _ beyond

address_of-read : (text : List ℕ) → length text ≤ 512 → address_of text ≡ address_of_parsed (parse_url None text)
unfolding address_of
address_of-read text short =
    let within : nat_lt 512 (length text) ≡ false = grind (arith, nat_tests) in cond-false _ _ _ within

pub address_of-url : (text : List ℕ) (url : Parts) → length text ≤ 512 → parse_url None text ≡ Ok url → address_of text
    ≡ address_of_url url
address_of-url text url short read = address_of-read text short ∙ ap address_of_parsed read

pub address_of_url-other : (url : Parts) → is_http url ≡ false → address_of_url url ≡ Err NotHttp
address_of_url-other url other = cond-true _ _ _ (not_from_false _ other)

pub address_of_url-long : (url : Parts) → is_http url ≡ true → 512 < length (serialize url) → address_of_url url
    ≡ Err TooLong
address_of_url-long url http long =
    let beyond : nat_lt 512 (length (serialize url)) ≡ true = grind (arith, nat_tests) in
    cond-false _ _ _ (not_from_true _ http) ∙ cond-true _ _ _ beyond

pub address_of_url-own : (url : Parts) → is_http url ≡ true → length (serialize url) ≤ 512 → address_of_url url
    ≡ Ok (serialize url)
address_of_url-own url http short =
    let within : nat_lt 512 (length (serialize url)) ≡ false = grind (arith, nat_tests) in
    cond-false _ _ _ (not_from_true _ http) ∙ cond-false _ _ _ within

-- an error that is no want of memory says that the text is no URL
not_url : (error : ParseError) → fault_of error ≢ Memory → fault_of error ≡ NotUrl
not_url OutOfMemory other = absurd (other refl)
not_url Overflow other = absurd (other refl)
not_url _ other = refl

-- and one that is a want of memory is answered so
memory_from_room : (error : ParseError) → IsOutOfRoom error → fault_of error ≡ Memory
memory_from_room error (inl e) = ap fault_of e
memory_from_room error (inr e) = ap fault_of e

-- the fault that an error of the parser comes to
pub address_of-refused : (text : List ℕ) (error : ParseError) → length text ≤ 512 → (parse_url None text ≡ Err error)
    ⊎ IsOutOfRoom error → fault_of error ≢ Memory → address_of text ≡ Err (fault_of error)
address_of-refused text error short (inl read) other =
    address_of-read text short ∙ ap address_of_parsed read ∙ ap Err (sym (not_url error other))
address_of-refused text error short (inr room) other = absurd (other (memory_from_room error room))

-- the URL of a parse is an address, where `address_of` finds no fault
pub url_is_address : (url : Parts) → IsValid url → is_http url ≡ true → length (serialize url) ≤ 512 → IsAddressUrl url
unfolding is_address
url_is_address url valid http short =
    let scheme = (bytes_eq-Decides _ _).0 (and_parts (bytes_eq url.scheme (codes "http")) _ http).0 in
    record {
      scheme = scheme;
      own
          = ap (is_own (serialize url)) (address_of-url _ url short (parse_url-own url valid scheme)
          ∙ address_of_url-own url http short)
          ∙ (bytes_eq-Decides (serialize url) (serialize url)).1 refl;
    }

-- ---- tests of texts

-- what the answer of `address` says of the text itself
pub is_address-own : (text own : List ℕ) → address_of text ≡ Ok own → is_address text ≡ bytes_eq own text
unfolding is_address
is_address-own text own e = ap (is_own text) e

pub is_address-fault : (text : List ℕ) (fault : UriFault) → address_of text ≡ Err fault → is_address text ≡ false
unfolding is_address
is_address-fault text fault e = ap (is_own text) e

-- an address is UTF-8, being ASCII
is_address-utf8 : (text : List ℕ) → is_address text ≡ true → IsUtf8 text
is_address-utf8 text own =
    IsUtf8-from_ascii text
    (IsAscii-from_all text (All-weaker (Passes is_ascii_graphic) (λ b. b < 128)
    (λ b graphic. grind (arith, nat_tests)) text (All_from_list_all is_ascii_graphic text
    (is_address-fit text own).graphic)))

pub is_address-not_utf8 : (text : List ℕ) → ¬ (IsUtf8 text) → is_address text ≡ false
is_address-not_utf8 text other =
    false_from_ne_true (is_address text) (λ own. other (is_address-utf8 text own))

-- the address that a text of bytes stands for is an address
own_of_url : (url : Parts) (own : List ℕ) → (url.scheme ≡ codes "http" → IsValid url) → address_of_url url ≡ Ok own
    → is_address own ≡ true
own_of_url url own valid =
    cond_both (not (is_http url)) (Err NotHttp) _ (λ r. r ≡ Ok own → is_address own ≡ true) (λ _ e. cc) λ other.
    cond_both (nat_lt 512 (length (serialize url))) (Err TooLong) (Ok (serialize url))
    (λ r. r ≡ Ok own → is_address own ≡ true) (λ _ e. cc) λ short e.
    let http = not-false _ other in
    let scheme = (bytes_eq-Decides _ _).0 (and_parts (bytes_eq url.scheme (codes "http")) _ http).0 in
    let same : serialize url ≡ own = cc in
    subst (λ text. is_address text ≡ true) same (url_is_address url (valid scheme) http (ltb-false _ _ short)).own

own_of_parsed : (parsed : Result Parts ParseError) (own : List ℕ) → ((url : Parts) → parsed ≡ Ok url → url.scheme
    ≡ codes "http" → IsValid url) → address_of_parsed parsed ≡ Ok own → is_address own ≡ true
own_of_parsed (Ok url) own valid e = own_of_url url own (valid url refl) e
own_of_parsed (Err error) own valid e = cc

pub address_is_own : (text own : List ℕ) → All (λ b. b < 256) text → address_of text ≡ Ok own → is_address own ≡ true
unfolding address_of
address_is_own text own fit =
    cond_both (nat_lt 512 (length text)) (Err TooLong) (address_of_parsed (parse_url None text))
    (λ r. r ≡ Ok own → is_address own ≡ true) (λ _ e. cc)
    λ _ e. own_of_parsed (parse_url None text) own (λ url read http. parse_url-valid text url fit read http) e
