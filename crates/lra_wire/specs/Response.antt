-- What the bytes of a stream say of its next response (RFC 9112, sections 4 to 7).
use Rattle.std.specs.Prelude.{◌≡◌, ◌⊎◌, ℕ, ◌+◌, ◌-◌, ◌<◌, ◌≤◌, Bool, true, false, ◌&&◌, ◌||◌, ◌==◌, nat_le, nat_lt}
use Rattle.std.specs.Prelude.{if◌then◌else◌, List, [], ◌∷◌, ◌++◌, length, map, codes, All, Result, Ok, Err, ⊤}
use Rattle.std.specs.List.{flat_map}
use Rattle.httparse.specs.Grammar.{ResponseHead, print_response, IsResponseHead, ReadsResponse, HasNoResponse}
use Rattle.httparse.specs.Grammar.{MayBecomeResponse, status_code}
use Rattle.httparse.specs.Spans.{name_and_value}
use Rattle.lra_wire.specs.declared.fault.WireFault.{WireFault}
use Rattle.lra_wire.specs.declared.fault.WireFault.TheVariants.{BadHead, Chunked, BadLength, TooLarge, Cut, Io, Memory}
use Rattle.lra_wire.specs.declared.fields.ContentLength.{ContentLength}
use Rattle.lra_wire.specs.declared.fields.ContentLength.TheVariants.{Nothing, Length, Malformed}
use Rattle.lra_wire.specs.declared.framing.Framing.{Framing}
use Rattle.lra_wire.specs.declared.framing.Framing.TheVariants.{Sized, Chunks, ToTheEnd}
use Rattle.lra_wire.specs.Chunks.{IsChunked, RefusesChunks, AwaitsChunks}
use Rattle.lra_wire.specs.Fields.{is_alike, values_of, stated_of}
use Rattle.lra_wire.specs.Streams.{UpToLine}

-- the names and the values of a head's fields
abbrev pub fields_in : ResponseHead → List (List ℕ × List ℕ)
fields_in head = map name_and_value head.fields

-- a head within the limits (this project's choice)
pub record IsShort (head : ResponseHead) : Type 0 where
  pub size : length (print_response head) ≤ 8192
  pub count : length head.fields ≤ 64

-- the bytes begin with a head within the limits, and these bytes follow it
pub record HasResponse (bytes : List ℕ) (head : ResponseHead) (rest : List ℕ) : Type 0 where
  pub reads : ReadsResponse bytes head rest
  pub short : IsShort head

-- the bytes begin with no head within the limits, whatever follows them
abbrev pub NeverShort : List ℕ → Type 0
NeverShort bytes = (more : List ℕ) (head : ResponseHead) (rest : List ℕ) → ¬ (HasResponse (bytes ++ more) head rest)

-- a status of 100 to 199 (RFC 9110, section 15.2)
abbrev pub is_interim : ℕ → Bool
is_interim code = nat_le 100 code && nat_lt code 200

-- an interim head within the limits
pub record IsInterim (head : ResponseHead) : Type 0 where
  pub valid : IsResponseHead head
  pub short : IsShort head
  pub status : is_interim (status_code head) ≡ true

-- the bytes begin with interim heads, of which at most 8 are skipped
pub record Skips (bytes : List ℕ) (heads : List ResponseHead) (rest : List ℕ) : Type 0 where
  pub each : All IsInterim heads
  pub few : length heads ≤ 8
  pub front : bytes ≡ flat_map print_response heads ++ rest

-- the bytes begin with interim heads and a final head, and these bytes follow it
pub record HasFinal (bytes : List ℕ) (head : ResponseHead) (rest : List ℕ) : Type 0 where
  pub interim : List ResponseHead
  pub behind : List ℕ
  pub skips : Skips bytes interim behind
  pub found : HasResponse behind head rest
  pub status : is_interim (status_code head) ≡ false

-- a body of a stated length, of at most 65,536 bytes, or up to the end of the stream
abbrev pub stated_framing : ContentLength → Result Framing WireFault
stated_framing Nothing = Ok ToTheEnd
stated_framing (Length n) = if nat_le n 65536 then Ok (Sized n) else Err TooLarge
stated_framing Malformed = Err BadLength

-- one transfer coding, which has to be `chunked`, or else what Content-Length says
abbrev pub coded_framing : List (List ℕ) → ContentLength → Result Framing WireFault
coded_framing [] stated = stated_framing stated
coded_framing (coding ∷ []) stated = if is_alike coding (codes "chunked") then Ok Chunks else Err Chunked
coded_framing (coding ∷ other ∷ codings) stated = Err Chunked

-- how the body of a response with this status and these fields ends (RFC 9112, section 6.3): 204 and 304 have none
abbrev pub framing_of : ℕ → List (List ℕ × List ℕ) → Result Framing WireFault
framing_of code fields = if (code == 204) || (code == 304) then Ok (Sized 0) else coded_framing
    (values_of (codes "transfer-encoding") fields) (stated_of fields)

-- the bytes are that body, and then the rest
abbrev pub IsBody : Framing → List ℕ → List ℕ → List ℕ → Type 0
IsBody (Sized n) bytes body rest = (bytes ≡ body ++ rest) × (length body ≡ n)
IsBody Chunks bytes body rest = IsChunked bytes body rest
IsBody ToTheEnd bytes body rest = (bytes ≡ body) × (rest ≡ []) × (length body ≤ 65536)

-- the bytes are that response, of at most 2^20 bytes with its interim heads, and then the rest
pub record IsResponse (bytes : List ℕ) (code : ℕ) (body rest : List ℕ) : Type 0 where
  pub head : ResponseHead
  pub behind : List ℕ
  pub final : HasFinal bytes head behind
  pub status : code ≡ status_code head
  pub framing : Framing
  pub framed : framing_of (status_code head) (fields_in head) ≡ Ok framing
  pub content : IsBody framing behind body rest
  pub size : length bytes ≤ 1048576 + length rest

-- why the bytes after a head are no body of that framing, where the head ends at that offset of the response
abbrev pub RefusesFramed : Framing → ℕ → List ℕ → WireFault → Type 0
RefusesFramed (Sized n) place bytes fault = (fault ≡ Cut) × (length bytes < n)
RefusesFramed Chunks place bytes fault = RefusesChunks place bytes fault
RefusesFramed ToTheEnd place bytes fault = (fault ≡ TooLarge) × (65536 < length bytes)

-- a final head stands there, and its framing is refused, or its body
pub record RefusesRest (bytes : List ℕ) (fault : WireFault) : Type 0 where
  pub head : ResponseHead
  pub behind : List ℕ
  pub final : HasFinal bytes head behind
  pub refused : (framing_of (status_code head) (fields_in head) ≡ Err fault)
      ⊎ ((framing : Framing) × (framing_of (status_code head) (fields_in head) ≡ Ok framing)
      × RefusesFramed framing (length bytes - length behind) behind fault)

-- after interim heads come bytes that never become a head within the limits, or a ninth interim head
pub record RefusesHead (bytes : List ℕ) : Type 0 where
  pub interim : List ResponseHead
  pub rest : List ℕ
  pub skips : Skips bytes interim rest
  pub refused : NeverShort rest
      ⊎ ((length interim ≡ 8) × (head : ResponseHead) × (behind : List ℕ) × HasResponse rest head behind
      × (is_interim (status_code head) ≡ true))

-- the stream ends before a head, or in one that follows the grammar so far
pub record EndsInResponse (bytes : List ℕ) : Type 0 where
  pub interim : List ResponseHead
  pub rest : List ℕ
  pub skips : Skips bytes interim rest
  pub open_head : HasNoResponse rest
  pub lawful : MayBecomeResponse rest

-- Why the bytes are no response. Several faults may hold of a chunked body, and where the bytes end in a head that no
-- continuation makes valid: each is right. A fault of the reader or of memory says nothing of the bytes.
abbrev pub RefusesResponse : List ℕ → WireFault → Type 0
RefusesResponse bytes BadHead = RefusesHead bytes
RefusesResponse bytes Chunked = RefusesRest bytes Chunked
RefusesResponse bytes BadLength = RefusesRest bytes BadLength
RefusesResponse bytes TooLarge = RefusesRest bytes TooLarge
RefusesResponse bytes Cut = EndsInResponse bytes ⊎ RefusesRest bytes Cut
RefusesResponse bytes Io = ⊤
RefusesResponse bytes Memory = ⊤

-- the body isn't whole. A body that ends with the stream never is before that.
abbrev pub AwaitsBody : Framing → List ℕ → Type 0
AwaitsBody (Sized n) bytes = length bytes < n
AwaitsBody Chunks bytes = AwaitsChunks bytes
AwaitsBody ToTheEnd bytes = ⊤

-- a final head stands there, and its body isn't whole
pub record AwaitsRest (bytes : List ℕ) : Type 0 where
  pub head : ResponseHead
  pub behind : List ℕ
  pub final : HasFinal bytes head behind
  pub framing : Framing
  pub framed : framing_of (status_code head) (fields_in head) ≡ Ok framing
  pub open_body : AwaitsBody framing behind

-- a head isn't whole, and follows the grammar so far, at least up to its last line feed
abbrev pub IsOpenResponse : List ℕ → Type 0
IsOpenResponse bytes = HasNoResponse bytes × UpToLine MayBecomeResponse bytes

-- after interim heads comes a head that isn't whole
pub record AwaitsHead (bytes : List ℕ) : Type 0 where
  pub interim : List ResponseHead
  pub rest : List ℕ
  pub skips : Skips bytes interim rest
  pub open_head : IsOpenResponse rest

-- a response isn't whole: a head isn't, or the body after the final head
abbrev pub AwaitsResponse : List ℕ → Type 0
AwaitsResponse bytes = AwaitsHead bytes ⊎ AwaitsRest bytes
