-- Requests, where chunked bodies and the expectation `100-continue` are accepted (RFC 9112, sections 6.3 and 7.1; RFC
-- 9110, section 10.1.1).
use Rattle.std.specs.Prelude.{◌≡◌, ◌≢◌, ◌⊎◌, ℕ, ◌+◌, ◌-◌, ◌<◌, ◌≤◌, Bool, true, false, not, ◌||◌, ◌&&◌, ◌==◌, nat_le}
use Rattle.std.specs.Prelude.{if◌then◌else◌, List, [], ◌∷◌, ◌++◌, length, drop, codes, Option, Some, None, Result, Ok}
use Rattle.std.specs.Prelude.{Err}
use Rattle.httparse.specs.Grammar.{RequestHead}
use Rattle.lra_wire.specs.declared.fault.WireFault.{WireFault}
use Rattle.lra_wire.specs.declared.fault.WireFault.TheVariants.{Chunked, BadLength, TooLarge, Cut}
use Rattle.lra_wire.specs.declared.fields.ContentLength.{ContentLength}
use Rattle.lra_wire.specs.declared.fields.ContentLength.TheVariants.{Nothing, Length, Malformed}
use Rattle.lra_wire.specs.declared.framing.Framing.{Framing}
use Rattle.lra_wire.specs.declared.framing.Framing.TheVariants.{Sized, Chunks, ToTheEnd}
use Rattle.lra_wire.specs.declared.front.Front.{Front}
use Rattle.lra_wire.specs.Chunks.{IsChunked}
use Rattle.lra_wire.specs.Fields.{is_alike, values_of, has_field, is_coded, stated_of}
use Rattle.lra_wire.specs.Request.{Request, IsRequest, RefusesRequest, AwaitsRequest, HasHead, fields_of, closes}
use Rattle.lra_wire.specs.Request.{told_by, request_of}
use Rattle.lra_wire.specs.Response.{IsBody, RefusesFramed, AwaitsBody}
use Rattle.lra_wire.specs.ResponseParse.{Lasts}
use Rattle.lra_wire.specs.Fronts.{RefusesFront, IsUnfinished}

-- no expectation, or `100-continue` alone (RFC 9110, section 10.1.1; another one isn't supported)
abbrev pub is_met : List (List ℕ) → Bool
is_met [] = true
is_met (value ∷ []) = is_alike value (codes "100-continue")
is_met (value ∷ other ∷ values) = false

-- chunks, unless a length is stated too or the request is one of HTTP/1.0 (RFC 9112, sections 6.1 and 6.3)
abbrev pub chunked_framing : ℕ → ContentLength → Result Framing WireFault
chunked_framing minor Nothing = if minor == 0 then Err BadLength else Ok Chunks
chunked_framing minor (Length n) = Err BadLength
chunked_framing minor Malformed = Err BadLength

-- a body of a stated length, of at most 65,536 bytes: without one it is empty
abbrev pub sized_framing : ContentLength → Result Framing WireFault
sized_framing Nothing = Ok (Sized 0)
sized_framing (Length n) = if nat_le n 65536 then Ok (Sized n) else Err TooLarge
sized_framing Malformed = Err BadLength

-- one transfer coding, which has to be `chunked`, or else what Content-Length says
abbrev pub body_framing : ℕ → List (List ℕ) → ContentLength → Result Framing WireFault
body_framing minor [] stated = sized_framing stated
body_framing minor (coding ∷ []) stated =
    if is_alike coding (codes "chunked") then chunked_framing minor stated else Err Chunked
body_framing minor (coding ∷ other ∷ codings) stated = Err Chunked

-- how the body of a request of that minor version with these fields ends, or the first fault
abbrev pub request_framing : ℕ → List (List ℕ × List ℕ) → Result Framing WireFault
request_framing minor fields =
    if has_field (codes "content-encoding") fields || not (is_met (values_of (codes "expect") fields)) then Err Chunked
    else body_framing minor (values_of (codes "transfer-encoding") fields) (stated_of fields)

-- a line feed without CR before it; the flag says whether CR stands before the bytes
abbrev pub has_bare_feed : Bool → List ℕ → Bool
has_bare_feed is_return [] = false
has_bare_feed is_return (b ∷ bytes) = if (b == 10) && not is_return then true else has_bare_feed (b == 13) bytes

-- the bytes are that chunked body and the rest, and the last line and the trailer are this text
pub record HasTrailing (bytes body rest text : List ℕ) : Type 0 where
  pub chunked : IsChunked bytes body rest
  pub whole : chunked.last ≡ text ++ rest

-- The bytes are that body and the rest. No line of a trailer ends in a bare line feed (RFC 9112, section 2.2, lets it;
-- this project's choice, since others may read on there).
abbrev pub IsCodedBody : Framing → List ℕ → List ℕ → List ℕ → Type 0
IsCodedBody (Sized n) bytes body rest = IsBody (Sized n) bytes body rest
IsCodedBody Chunks bytes body rest = (text : List ℕ) × HasTrailing bytes body rest text
    × (has_bare_feed false text ≡ false)
IsCodedBody ToTheEnd bytes body rest = ⊥

-- the bytes begin with chunks whose trailer has a bare line feed
abbrev pub IsBare : Framing → List ℕ → Type 0
IsBare (Sized n) bytes = ⊥
IsBare Chunks bytes = (body : List ℕ) × (rest : List ℕ) × (text : List ℕ) × HasTrailing bytes body rest text
    × (has_bare_feed false text ≡ true)
IsBare ToTheEnd bytes = ⊥

-- the bytes are that request, of at most 139,264 bytes, and then the rest; its head has a coding or an expectation
pub record IsCodedRequest (bytes : List ℕ) (request : Request) (rest : List ℕ) : Type 0 where
  pub head : RequestHead
  pub behind : List ℕ
  pub found : HasHead bytes head behind
  pub coded : is_coded (fields_of head) ≡ true
  pub framing : Framing
  pub framed : request_framing head.minor (fields_of head) ≡ Ok framing
  pub content : IsCodedBody framing behind request.body rest
  pub method : request.method ≡ head.method
  pub target : request.target ≡ head.target
  pub minor : request.minor ≡ head.minor
  pub close : request.close ≡ closes head
  pub fields : request.fields ≡ told_by (fields_of head)
  pub size : length bytes ≤ 139264 + length rest

-- A body isn't whole in the first 139,264 bytes of its request, or ends after them (this project's choice). It begins
-- at that offset.
abbrev pub Outgrows : Framing → ℕ → List ℕ → Type 0
Outgrows framing place behind =
    ((front : List ℕ) × (back : List ℕ) × (behind ≡ front ++ back) × AwaitsBody framing front
    × (139264 ≤ place + length front))
    ⊎ ((body : List ℕ) × (rest : List ℕ) × IsCodedBody framing behind body rest
    × (139264 + length rest < place + length behind))

-- why there is no body of that framing behind a head, where the head ends at that offset
abbrev pub RefusesCodedBody : Framing → ℕ → List ℕ → WireFault → Type 0
RefusesCodedBody framing place behind fault = RefusesFramed framing place behind fault
    ⊎ (((fault ≡ TooLarge) × Outgrows framing place behind) ⊎ ((fault ≡ BadLength) × IsBare framing behind))

-- the bytes begin with a valid head that has a coding or an expectation, and its framing is refused, or its body
pub record RefusesCoded (bytes : List ℕ) (fault : WireFault) : Type 0 where
  pub head : RequestHead
  pub behind : List ℕ
  pub found : HasHead bytes head behind
  pub coded : is_coded (fields_of head) ≡ true
  pub refused : (request_framing head.minor (fields_of head) ≡ Err fault)
      ⊎ ((framing : Framing) × (request_framing head.minor (fields_of head) ≡ Ok framing)
      × RefusesCodedBody framing (length bytes - length behind) behind fault)

-- the bytes begin with such a head that is in order, and its body isn't whole
pub record AwaitsCoded (bytes : List ℕ) : Type 0 where
  pub head : RequestHead
  pub behind : List ℕ
  pub found : HasHead bytes head behind
  pub coded : is_coded (fields_of head) ≡ true
  pub framing : Framing
  pub framed : request_framing head.minor (fields_of head) ≡ Ok framing
  pub open_body : AwaitsBody framing behind

-- a head of HTTP/1.1 has an expectation (RFC 9110, section 10.1.1: one of HTTP/1.0 asks for nothing)
abbrev pub is_expected : ℕ → List (List ℕ × List ℕ) → Bool
is_expected minor fields = (minor == 1) && has_field (codes "expect") fields

-- the bytes are a head that is in order and expects `100 Continue`, and no byte of its body has come
pub record AwaitsContinue (bytes : List ℕ) : Type 0 where
  pub head : RequestHead
  pub found : HasHead bytes head []
  pub framing : Framing
  pub framed : request_framing head.minor (fields_of head) ≡ Ok framing
  pub expects : is_expected head.minor (fields_of head) ≡ true

-- The same notions, where such requests are accepted or refused. The bytes are that request and the rest:
abbrev pub IsRequestBy : Bool → List ℕ → Request → List ℕ → Type 0
IsRequestBy false bytes request rest = IsRequest bytes request rest
IsRequestBy true bytes request rest = IsRequest bytes request rest ⊎ IsCodedRequest bytes request rest

-- why the bytes begin with no request, whatever follows them
abbrev pub RefusesFrontBy : Bool → List ℕ → WireFault → Type 0
RefusesFrontBy false bytes fault = RefusesFront bytes fault
RefusesFrontBy true bytes fault = ((fault ≢ Chunked) × RefusesFront bytes fault) ⊎ Lasts RefusesCoded bytes fault

-- why the bytes of a stream are no request
abbrev pub RefusesRequestBy : Bool → List ℕ → WireFault → Type 0
RefusesRequestBy false bytes fault = RefusesRequest bytes fault
RefusesRequestBy true bytes fault = ((fault ≢ Chunked) × RefusesRequest bytes fault)
    ⊎ (RefusesCoded bytes fault ⊎ ((fault ≡ Cut) × AwaitsCoded bytes))

-- more of a request is wanted
abbrev pub IsUnfinishedBy : Bool → List ℕ → Type 0
IsUnfinishedBy false bytes = IsUnfinished bytes
IsUnfinishedBy true bytes = IsUnfinished bytes ⊎ AwaitsCoded bytes

-- a request isn't whole
abbrev pub AwaitsRequestBy : Bool → List ℕ → Type 0
AwaitsRequestBy false bytes = AwaitsRequest bytes
AwaitsRequestBy true bytes = AwaitsRequest bytes ⊎ AwaitsCoded bytes

-- the number of bytes of the largest request (this project's choice)
abbrev pub most_of : Bool → ℕ
most_of false = 73728
most_of true = 139264

-- A whole request, and the number of its bytes. Or more bytes are wanted, and fewer came than the largest request has.
-- Or why the bytes begin with no request.
abbrev pub IsFrontBy : Bool → List ℕ → Result (Option Front) WireFault → Type 0
IsFrontBy chunked bytes (Ok (Some front)) = (front.len ≤ length bytes)
    × IsRequestBy chunked bytes (request_of front.request) (drop front.len bytes)
IsFrontBy chunked bytes (Ok None) = IsUnfinishedBy chunked bytes × (length bytes < most_of chunked)
IsFrontBy chunked bytes (Err fault) = RefusesFrontBy chunked bytes fault

-- the same for bytes of which a prefix was seen: a head that isn't whole follows the grammar at least up to its last
-- line feed
abbrev pub IsFrontSeenBy : Bool → List ℕ → Result (Option Front) WireFault → Type 0
IsFrontSeenBy chunked bytes (Ok (Some front)) = IsFrontBy chunked bytes (Ok (Some front))
IsFrontSeenBy chunked bytes (Ok None) = AwaitsRequestBy chunked bytes × (length bytes < most_of chunked)
IsFrontSeenBy chunked bytes (Err fault) = RefusesFrontBy chunked bytes fault
