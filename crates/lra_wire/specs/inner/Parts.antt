-- What is found of the parts of a response in the bytes that came so far.
use Rattle.std.specs.Prelude.{◌≡◌, ℕ, ◌+◌, ◌<◌, ◌≤◌, List, ◌++◌, length, drop, Option, Some, None, Result, Ok, Err, ⊤}
use Rattle.std.specs.Prelude.{◌*◌, []}
use Rattle.httparse.specs.Grammar.{ResponseHead, print_response, HasNoResponse, MayBecomeResponse, status_code}
use Rattle.lra_wire.specs.declared.fault.WireFault.{WireFault}
use Rattle.lra_wire.specs.declared.fault.WireFault.TheVariants.{BadHead, Cut}
use Rattle.lra_wire.specs.declared.framing.Framing.{Framing}
use Rattle.lra_wire.specs.declared.framing.Framing.TheVariants.{Sized, Chunks, ToTheEnd}
use Rattle.lra_wire.specs.declared.response.Head.{Head}
use Rattle.lra_wire.specs.Response.{HasResponse, NeverShort, fields_in, framing_of, RefusesResponse, Skips, HasFinal}
use Rattle.lra_wire.specs.Response.{IsBody, RefusesFramed, EndsInResponse, AwaitsBody, AwaitsResponse}
use Rattle.lra_wire.specs.declared.wanted.BodyFront.{BodyFront}
use Rattle.lra_wire.specs.declared.response_parse.ResponseParse.{ResponseParse}
use Rattle.lra_wire.specs.declared.chunks.ChunksRead.{ChunksRead}
use Rattle.lra_wire.specs.declared.response_parse.InterimHeads.{InterimHeads}
use Rattle.lra_wire.specs.declared.wanted.Wanted.TheVariants.{Feed}
use Rattle.lra_wire.specs.ResponseParse.{Lasts}
use Rattle.lra_wire.specs.declared.response_parse.ResponseParse.TheVariants as response_parse
use Rattle.lra_wire.specs.declared.wanted.BodyFront.TheVariants as body
use Rattle.lra_wire.specs.inner.Wanted.{IsOpenAt, LastsAt}
use Rattle.lra_wire.specs.Chunks.{HasLast}
use Rattle.lra_wire.specs.inner.Chunked.{HasRead, ChunksTo}

-- the bytes begin with a head within the limits, and these are its values
pub record IsHeadOf (bytes : List ℕ) (found : Head) : Type 0 where
  pub head : ResponseHead
  pub has : HasResponse bytes head (drop found.len bytes)
  pub within : found.len ≤ length bytes
  pub len : found.len ≡ length (print_response head)
  pub code : found.code ≡ status_code head
  pub framing : found.framing ≡ framing_of (status_code head) (fields_in head)

-- a whole head, or one that more bytes may complete, or none whatever follows
abbrev pub FindsResponse : List ℕ → Result (Option Head) WireFault → Type 0
FindsResponse bytes (Ok (Some found)) = IsHeadOf bytes found
FindsResponse bytes (Ok None) = HasNoResponse bytes × MayBecomeResponse bytes × (length bytes < 8192)
FindsResponse bytes (Err fault) = (fault ≡ BadHead) × NeverShort bytes

-- the bytes begin with so many interim heads, up to an offset
pub record SkipsTo (bytes : List ℕ) (start count : ℕ) : Type 0 where
  pub heads : List ResponseHead
  pub skips : Skips bytes heads (drop start bytes)
  pub counted : length heads ≡ count

-- so many interim heads, each within its limit, were read up to that offset
pub record Heads (bytes : List ℕ) (start interim : ℕ) : Type 0 where
  pub within : start ≤ length bytes
  pub place : start ≤ interim * 8192
  pub few : interim ≤ 8
  pub so_far : SkipsTo bytes start interim

-- the bytes begin with the interim heads that were read
abbrev pub Passes : List ℕ → InterimHeads → Type 0
Passes bytes passed = Heads bytes passed.end passed.count

-- the number of bytes at which a line that isn't whole is too long: those of the interim heads and one more head, or of
-- the largest response
abbrev pub most_bytes : Option Head → InterimHeads → ℕ
most_bytes None passed = passed.end + 8192
most_bytes (Some head) passed = 1048576

-- interim heads and a final one: its values, and the offset at which it ends
pub record IsFinalOf (bytes : List ℕ) (found : Head) : Type 0 where
  pub head : ResponseHead
  pub within : found.len ≤ length bytes
  pub bound : found.len ≤ 73728
  pub code : found.code ≡ status_code head
  pub framing : found.framing ≡ framing_of (status_code head) (fields_in head)
  pub final : (more : List ℕ) → HasFinal (bytes ++ more) head (drop found.len (bytes ++ more))

-- a final head, or after the interim ones a head that more bytes may complete, or none whatever follows
abbrev pub FindsFinal : ℕ → List ℕ → Result (Option Head) WireFault → Type 0
FindsFinal start bytes (Ok (Some found)) = IsFinalOf bytes found
FindsFinal start bytes (Ok None) = HasNoResponse (drop start bytes) × MayBecomeResponse (drop start bytes)
    × (length (drop start bytes) < 8192)
FindsFinal start bytes (Err fault) = Lasts RefusesResponse bytes fault

-- the final head that was seen, or that a line feed is wanted, or none whatever follows
abbrev pub FindsHead : Option Head → List ℕ → Result (Option Head) WireFault → Type 0
FindsHead seen bytes (Ok (Some found)) = seen ≡ Some found
FindsHead seen bytes (Ok None) = (seen ≡ None) × IsOpenAt AwaitsResponse 0 bytes (Feed (length bytes))
    × EndsInResponse bytes
FindsHead seen bytes (Err fault) = Lasts RefusesResponse bytes fault

-- What was read after the interim heads: the final head and the chunks after it, or neither a final head nor anything
-- of a body.
abbrev pub SeesBody : Option Head → ChunksRead → List ℕ → Type 0
SeesBody None read bytes = read.body.items ≡ []
SeesBody (Some head) read bytes = IsFinalOf bytes head × (read.start ≡ head.len) × HasRead bytes read

-- a stated length within the limit
abbrev pub IsSmall : Framing → Type 0
IsSmall (Sized n) = n ≤ 65536
IsSmall Chunks = ⊤
IsSmall ToTheEnd = ⊤

-- a whole body, and the offset at which it ends
pub record IsBodyTo (framing : Framing) (start : ℕ) (bytes body : List ℕ) (end : ℕ) : Type 0 where
  pub behind : start ≤ end
  pub within : end ≤ length bytes
  pub bound : end ≤ 1048576
  pub there : (more : List ℕ) → IsBody framing (drop start (bytes ++ more)) body (drop end (bytes ++ more))

-- a body of that framing, where the stream ends with these bytes: it is cut, or ends with them
abbrev pub EndsBody : Framing → ℕ → List ℕ → Type 0
EndsBody (Sized n) start bytes = RefusesFramed (Sized n) start (drop start bytes) Cut
EndsBody Chunks start bytes = RefusesFramed Chunks start (drop start bytes) Cut
EndsBody ToTheEnd start bytes = length bytes ≤ start + 65536

-- the body from an offset on; or that more bytes are wanted, and what the body is without them; or why there is none
abbrev pub FindsBodyFront : Framing → ℕ → List ℕ → Result BodyFront WireFault → Type 0
FindsBodyFront framing start bytes (Ok (body.Whole content end)) = IsBodyTo framing start bytes content.items end
FindsBodyFront framing start bytes (Ok (body.Open wanted)) = IsOpenAt (AwaitsBody framing) start bytes wanted
    × EndsBody framing start bytes
FindsBodyFront framing start bytes (Err fault) = LastsAt (RefusesFramed framing start) start bytes fault

-- where the stream ends with these bytes, the final head isn't whole, or the body after it
abbrev pub EndsOpen : Option Head → List ℕ → Type 0
EndsOpen None bytes = EndsInResponse bytes
EndsOpen (Some head) bytes = (framing : Framing) × (head.framing ≡ Ok framing) × EndsBody framing head.len bytes

-- the same where no whole response was found
abbrev pub EndsAsOpen : Option Head → List ℕ → ResponseParse → Type 0
EndsAsOpen head bytes (response_parse.Whole read len) = ⊤
EndsAsOpen head bytes (response_parse.Open wanted) = EndsOpen head bytes

-- chunks from an offset on make up the body, and the last line and the trailer stand between these offsets
pub record LastFrom (start last : ℕ) (bytes body : List ℕ) (end : ℕ) : Type 0 where
  pub ordered : last ≤ end
  pub within : end ≤ length bytes
  pub so_far : ChunksTo bytes start last body
  pub there : (more : List ℕ) → HasLast (drop last (bytes ++ more)) (drop end (bytes ++ more))

-- the same where the body is whole
abbrev pub IsLastFrom : ℕ → ℕ → List ℕ → Result BodyFront WireFault → Type 0
IsLastFrom start last bytes (Ok (body.Whole content end)) = LastFrom start last bytes content.items end
IsLastFrom start last bytes (Ok (body.Open wanted)) = ⊤
IsLastFrom start last bytes (Err fault) = ⊤
