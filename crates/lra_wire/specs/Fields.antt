-- What the fields of a head say, each a name and a value without the white space around it.
use Rattle.std.specs.Prelude.{ℕ, Bool, ◌&&◌, ◌||◌, if◌then◌else◌, nat_lt, nat_le, ◌==◌, List, [], ◌∷◌, length, map}
use Rattle.std.specs.Prelude.{codes, bytes_eq, Result, Ok, Err}
use Rattle.std.specs.List.{list_all, list_any, slice_split}
use Rattle.std.specs.Char.{is_ascii_digit, to_ascii_lowercase}
use Rattle.std.specs.Str.Parse.{digits_value}
use Rattle.httparse.specs.Ascii.{comma}
use Rattle.httparse.specs.Grammar.{trim_ows}
use Rattle.lra_wire.specs.declared.fault.WireFault.{WireFault}
use Rattle.lra_wire.specs.declared.fault.WireFault.TheVariants.{Chunked, BadLength, TooLarge}
use Rattle.lra_wire.specs.declared.fields.ContentLength.{ContentLength}
use Rattle.lra_wire.specs.declared.fields.ContentLength.TheVariants.{Nothing, Length, Malformed}

-- Two texts are equal but for the case of their letters (RFC 9110, section 5.1).
abbrev pub is_alike : List ℕ → List ℕ → Bool
is_alike a b = bytes_eq (map to_ascii_lowercase a) (map to_ascii_lowercase b)

-- the field has that name
abbrev pub is_named : List ℕ → List ℕ × List ℕ → Bool
is_named name field = is_alike field.0 name

-- the values of the fields of a name, in order
abbrev pub values_of : List ℕ → List (List ℕ × List ℕ) → List (List ℕ)
values_of name [] = []
values_of name (field ∷ fields) = if is_named name field then field.1 ∷ values_of name fields else values_of name fields

-- a field has that name
abbrev pub has_field : List ℕ → List (List ℕ × List ℕ) → Bool
has_field name fields = nat_lt 0 (length (values_of name fields))

-- A number of a Content-Length: 1 to 19 digits (RFC 9110, section 8.6; that many fit 64 bits).
abbrev pub spelled_length : List ℕ → ContentLength
spelled_length value = if nat_lt 0 (length value) && nat_le (length value) 19
    && list_all is_ascii_digit value then Length (digits_value 10 value) else Malformed

-- the length that the values of Content-Length state: there may be one value, and not even the same one twice
abbrev pub stated_by : List (List ℕ) → ContentLength
stated_by [] = Nothing
stated_by (value ∷ []) = spelled_length value
stated_by (value ∷ other ∷ values) = Malformed

-- the length of the body that a head states
abbrev pub stated_of : List (List ℕ × List ℕ) → ContentLength
stated_of fields = stated_by (values_of (codes "content-length") fields)

-- A head has a coding or an expectation, which isn't supported (this project's choice; RFC 9110, sections 8.4 and
-- 10.1.1, and RFC 9112, section 6.1).
abbrev pub is_coded : List (List ℕ × List ℕ) → Bool
is_coded fields = has_field (codes "transfer-encoding") fields || has_field (codes "content-encoding") fields
    || has_field (codes "expect") fields

-- a body of at most 65,536 bytes
abbrev pub limited : ℕ → Result ℕ WireFault
limited n = if nat_le n 65536 then Ok n else Err TooLarge

-- how long a request's body is: without a Content-Length it is empty (RFC 9112, section 6.3)
abbrev pub stated_body : ContentLength → Result ℕ WireFault
stated_body Nothing = Ok 0
stated_body (Length n) = limited n
stated_body Malformed = Err BadLength

-- how long the body of a request with these fields is, or the first fault
abbrev pub body_length_of : List (List ℕ × List ℕ) → Result ℕ WireFault
body_length_of fields = if is_coded fields then Err Chunked else stated_body (stated_of fields)

-- The list of a field's value has the element (RFC 9110, section 5.6.1).
abbrev pub has_element : List ℕ → List ℕ → Bool
has_element element value = list_any (λ part. is_alike (trim_ows part) element) (slice_split (λ b. b == comma) value)

-- A Connection field lists `close` (RFC 9112, section 9.6).
abbrev pub lists_close : List (List ℕ × List ℕ) → Bool
lists_close fields = list_any (has_element (codes "close")) (values_of (codes "connection") fields)
