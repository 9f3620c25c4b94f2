-- What the bytes of a stream say of its next request (RFC 9112, sections 2 to 6).
use Rattle.std.specs.Prelude.{◌≡◌, ◌≢◌, ◌⊎◌, ℕ, ◌<◌, ◌≤◌, Bool, ◌||◌, ◌==◌, List, [], ◌∷◌, ◌++◌, length, map, codes}
use Rattle.std.specs.Prelude.{Option, Some, None, Ok, Err, option_map, string_bytes, ⊤}
use Rattle.httparse.specs.Grammar.{RequestHead, print_request, ReadsRequest, HasNoRequest, MayBecomeRequest}
use Rattle.httparse.specs.Spans.{name_and_value}
use Rattle.lra_wire.specs.declared.fault.WireFault.{WireFault}
use Rattle.lra_wire.specs.declared.fault.WireFault.TheVariants.{BadHead, Chunked, BadLength, TooLarge, Cut, Io, Memory}
use Rattle.lra_wire.specs.declared.request.RequestRead.{RequestRead}
use Rattle.lra_wire.specs.declared.told.RequestFields.{RequestFields}
use Rattle.lra_wire.specs.Fields.{values_of, has_field, body_length_of, lists_close}
use Rattle.lra_wire.specs.Streams.{UpToLine}

-- the value of a field that occurs exactly once
abbrev pub sole : List (List ℕ) → Option (List ℕ)
sole [] = None
sole (value ∷ []) = Some value
sole (value ∷ other ∷ values) = None

-- the values of fields that say which client asks, from where, with what, and in which trace, of each that a head has
-- exactly once (RFC 9110, sections 7.2, 8.3, 11.6.2 and 12.5.1; RFC 6454, section 7; RFC 8288, section 3; Trace
-- Context, level 1, section 3.2; Narayana's interface)
pub record Fields : Type 0 where
  pub authorization : Option (List ℕ)
  pub content_type : Option (List ℕ)
  pub host : Option (List ℕ)
  pub origin : Option (List ℕ)
  pub traceparent : Option (List ℕ)
  pub accept : Option (List ℕ)
  pub link : Option (List ℕ)
  pub api_version : Option (List ℕ)
  pub has_data : Bool

-- these values among the fields of a head
abbrev pub told_by : List (List ℕ × List ℕ) → Fields
told_by fields = record {
  authorization = sole (values_of (codes "authorization") fields);
  content_type = sole (values_of (codes "content-type") fields);
  host = sole (values_of (codes "host") fields);
  origin = sole (values_of (codes "origin") fields);
  traceparent = sole (values_of (codes "traceparent") fields);
  accept = sole (values_of (codes "accept") fields);
  link = sole (values_of (codes "link") fields);
  api_version = sole (values_of (codes "narayana-lra-api-version") fields);
  has_data = has_field (codes "narayana-lra-participant-data") fields;
}

-- the same values, as the code read them
abbrev pub what_fields : RequestFields → Fields
what_fields read = record {
  authorization = option_map (λ value. value.items) read.authorization;
  content_type = option_map (λ value. value.items) read.content_type;
  host = option_map (λ value. value.items) read.host;
  origin = option_map (λ value. value.items) read.origin;
  traceparent = option_map (λ value. value.items) read.traceparent;
  accept = option_map (λ value. value.items) read.accept;
  link = option_map (λ value. value.items) read.link;
  api_version = option_map (λ value. value.items) read.api_version;
  has_data = read.has_data;
}

-- a request without where it lies in memory
pub record Request : Type 0 where
  pub method : List ℕ
  pub target : List ℕ
  pub minor : ℕ
  pub close : Bool
  pub body : List ℕ
  pub fields : Fields

-- the request that the code read
abbrev pub request_of : RequestRead → Request
request_of read = record {
  method = string_bytes read.method;
  target = string_bytes read.target;
  minor = read.minor;
  close = read.close;
  body = read.body.items;
  fields = what_fields read.fields;
}

-- the names and the values of a head's fields
abbrev pub fields_of : RequestHead → List (List ℕ × List ℕ)
fields_of head = map name_and_value head.fields

-- A head within the limits, with exactly one Host where it is one of HTTP/1.1 (RFC 9112, section 3.2; the limits are
-- this project's choice).
pub record IsLawful (head : RequestHead) : Type 0 where
  pub size : length (print_request head) ≤ 8192
  pub count : length head.fields ≤ 64
  pub host : head.minor ≡ 1 → length (values_of (codes "host") (fields_of head)) ≡ 1

-- The stream is closed after the request: its Connection lists `close`, or it is one of HTTP/1.0 (RFC 9112, section
-- 9.3).
abbrev pub closes : RequestHead → Bool
closes head = head.minor == 0 || lists_close (fields_of head)

-- the bytes begin with a valid head, and these bytes follow it
pub record HasHead (bytes : List ℕ) (head : RequestHead) (rest : List ℕ) : Type 0 where
  pub reads : ReadsRequest bytes head rest
  pub lawful : IsLawful head

-- the bytes are that request, and then the rest
pub record IsRequest (bytes : List ℕ) (request : Request) (rest : List ℕ) : Type 0 where
  pub head : RequestHead
  pub found : HasHead bytes head (request.body ++ rest)
  pub length : body_length_of (fields_of head) ≡ Ok (length request.body)
  pub method : request.method ≡ head.method
  pub target : request.target ≡ head.target
  pub minor : request.minor ≡ head.minor
  pub close : request.close ≡ closes head
  pub fields : request.fields ≡ told_by (fields_of head)

-- the bytes begin with no valid head, whatever follows them
abbrev pub NeverLawful : List ℕ → Type 0
NeverLawful bytes = (more : List ℕ) (head : RequestHead) (rest : List ℕ) → ¬ (HasHead (bytes ++ more) head rest)

-- the stream ends inside a head: it has begun, isn't whole, and follows the grammar so far
pub record EndsInHead (bytes : List ℕ) : Type 0 where
  pub begun : bytes ≢ []
  pub open_head : HasNoRequest bytes
  pub lawful : MayBecomeRequest bytes

-- the bytes begin with a valid head, and the length of the body is refused with that fault
pub record RefusesBody (bytes : List ℕ) (fault : WireFault) : Type 0 where
  pub head : RequestHead
  pub rest : List ℕ
  pub found : HasHead bytes head rest
  pub refused : body_length_of (fields_of head) ≡ Err fault

-- the bytes begin with a valid head, and the stream ends before the body does
pub record EndsInBody (bytes : List ℕ) : Type 0 where
  pub head : RequestHead
  pub rest : List ℕ
  pub found : HasHead bytes head rest
  pub size : ℕ
  pub stated : body_length_of (fields_of head) ≡ Ok size
  pub short : length rest < size

-- Why the bytes are no request. Where they end in a head that no continuation makes valid, two faults may hold. A fault
-- of the reader or of memory says nothing of the bytes.
abbrev pub RefusesRequest : List ℕ → WireFault → Type 0
RefusesRequest bytes BadHead = NeverLawful bytes
RefusesRequest bytes Chunked = RefusesBody bytes Chunked
RefusesRequest bytes BadLength = RefusesBody bytes BadLength
RefusesRequest bytes TooLarge = RefusesBody bytes TooLarge
RefusesRequest bytes Cut = EndsInHead bytes ⊎ EndsInBody bytes
RefusesRequest bytes Io = ⊤
RefusesRequest bytes Memory = ⊤

-- the bytes are that request and the rest, or there are no bytes and no request
abbrev pub GivesRequest : Option RequestRead → List ℕ → List ℕ → Type 0
GivesRequest None bytes rest = (bytes ≡ []) × (rest ≡ [])
GivesRequest (Some read) bytes rest = IsRequest bytes (request_of read) rest

-- a head isn't whole, and follows the grammar so far, at least up to its last line feed
abbrev pub IsOpenRequest : List ℕ → Type 0
IsOpenRequest bytes = HasNoRequest bytes × UpToLine MayBecomeRequest bytes

-- A request isn't whole: its head isn't, or the bytes begin with a valid head and not all of the body.
abbrev pub AwaitsRequest : List ℕ → Type 0
AwaitsRequest bytes = IsOpenRequest bytes ⊎ EndsInBody bytes
