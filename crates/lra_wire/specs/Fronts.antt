-- What the bytes of a request that came so far spell, where their stream may go on.
use Rattle.std.specs.Prelude.{◌≡◌, ◌⊎◌, ℕ, ◌<◌, ◌≤◌, List, [], ◌++◌, take, drop, length, Option, Some, None, Result, Ok}
use Rattle.std.specs.Prelude.{Err}
use Rattle.lra_wire.specs.declared.fault.WireFault.{WireFault}
use Rattle.lra_wire.specs.declared.fault.WireFault.TheVariants.{BadHead, Chunked, BadLength, TooLarge, Cut, Io, Memory}
use Rattle.lra_wire.specs.declared.front.Front.{Front}
use Rattle.lra_wire.specs.declared.front.RequestCursor.{RequestCursor}
use Rattle.lra_wire.specs.Request.{IsRequest, RefusesRequest, EndsInBody, IsOpenRequest, AwaitsRequest, request_of}

-- Why the bytes begin with no request, whatever follows them: a fault of these bytes and not of the stream's end, or a
-- fault of memory.
abbrev pub RefusesFront : List ℕ → WireFault → Type 0
RefusesFront bytes BadHead = RefusesRequest bytes BadHead
RefusesFront bytes Chunked = RefusesRequest bytes Chunked
RefusesFront bytes BadLength = RefusesRequest bytes BadLength
RefusesFront bytes TooLarge = RefusesRequest bytes TooLarge
RefusesFront bytes Memory = RefusesRequest bytes Memory
RefusesFront bytes Cut = ⊥
RefusesFront bytes Io = ⊥

-- More of a request is wanted: there are no bytes, or a stream that ends with them is cut short.
abbrev pub IsUnfinished : List ℕ → Type 0
IsUnfinished bytes = (bytes ≡ []) ⊎ RefusesRequest bytes Cut

-- A whole request, and the number of its bytes. Or more bytes are wanted, and fewer came than a head of 8,192 bytes and
-- a body of 65,536 have. Or why the bytes begin with no request.
abbrev pub IsFront : List ℕ → Result (Option Front) WireFault → Type 0
IsFront bytes (Ok (Some front)) = (front.len ≤ length bytes) × IsRequest bytes (request_of front.request)
    (drop front.len bytes)
IsFront bytes (Ok None) = IsUnfinished bytes × (length bytes < 73728)
IsFront bytes (Err fault) = RefusesFront bytes fault

-- The findings hold of the bytes. Either the head isn't whole in the bytes that were read. Or the bytes begin with a
-- whole head, and its body isn't whole before there are so many bytes, which are no more than the largest request has.
pub record Sees (seen : RequestCursor) (bytes : List ℕ) : Type 0 where
  pub within : seen.looked ≤ length bytes
  pub head : seen.wanted ≡ 0 → IsOpenRequest (take seen.looked bytes)
  pub body : 0 < seen.wanted → (seen.wanted ≤ 73728) × ((more : List ℕ) → length (bytes ++ more) < seen.wanted
      → EndsInBody (bytes ++ more))

-- the same for bytes of which a prefix was seen: a head that isn't whole follows the grammar at least up to its last
-- line feed
abbrev pub IsFrontSeen : List ℕ → Result (Option Front) WireFault → Type 0
IsFrontSeen bytes (Ok (Some front)) = IsFront bytes (Ok (Some front))
IsFrontSeen bytes (Ok None) = AwaitsRequest bytes × (length bytes < 73728)
IsFrontSeen bytes (Err fault) = RefusesFront bytes fault

-- why a stream that ends with these bytes has no further request: there are no bytes, or it was cut
abbrev pub EndsWith : List ℕ → Option WireFault → Type 0
EndsWith bytes None = bytes ≡ []
EndsWith bytes (Some fault) = (fault ≡ Cut) × RefusesRequest bytes Cut
