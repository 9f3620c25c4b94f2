-- What is found of a request that has a coding or an expectation, in the bytes that came so far.
use Rattle.std.specs.Prelude.{◌≡◌, ℕ, ◌<◌, ◌≤◌, List, [], ◌++◌, length, drop, true, ⊤, Option, Some, None}
use Rattle.std.specs.Prelude.{Result, Ok, Err}
use Rattle.httparse.specs.Grammar.{RequestHead}
use Rattle.lra_wire.specs.declared.fault.WireFault.{WireFault}
use Rattle.lra_wire.specs.declared.front.Front.{Front}
use Rattle.lra_wire.specs.declared.chunks.ChunksRead.{ChunksRead}
use Rattle.lra_wire.specs.declared.coded.CodedHead.{CodedHead}
use Rattle.lra_wire.specs.declared.wanted.Wanted.{Wanted}
use Rattle.lra_wire.specs.Fields.{is_coded}
use Rattle.lra_wire.specs.Request.{HasHead, fields_of, request_of}
use Rattle.lra_wire.specs.ResponseParse.{Lasts}
use Rattle.lra_wire.specs.declared.framing.Framing.{Framing}
use Rattle.lra_wire.specs.declared.framing.Framing.TheVariants.{Sized, Chunks, ToTheEnd}
use Rattle.lra_wire.specs.declared.wanted.BodyFront.{BodyFront}
use Rattle.lra_wire.specs.declared.wanted.BodyFront.TheVariants as body
use Rattle.lra_wire.specs.Response.{AwaitsBody}
use Rattle.lra_wire.specs.Coded.{request_framing, IsCodedRequest, IsCodedBody, RefusesCoded, RefusesCodedBody}
use Rattle.lra_wire.specs.Coded.{AwaitsCoded, is_expected}
use Rattle.lra_wire.specs.inner.Chunked.{HasRead}
use Rattle.lra_wire.specs.inner.Wanted.{IsMissing, HasLooked, IsOpenAt, LastsAt}

-- the bytes begin with a valid head that has a coding or an expectation, and these are its values
pub record IsCodedHeadOf (bytes : List ℕ) (found : CodedHead) : Type 0 where
  pub head : RequestHead
  pub has : HasHead bytes head (drop found.len bytes)
  pub within : found.len ≤ length bytes
  pub bound : found.len ≤ 8192
  pub coded : is_coded (fields_of head) ≡ true
  pub framed : request_framing head.minor (fields_of head) ≡ Ok found.framing
  pub expects : found.expects ≡ is_expected head.minor (fields_of head)

-- that head, or why its framing is refused
abbrev pub FindsCodedHead : List ℕ → Result CodedHead WireFault → Type 0
FindsCodedHead bytes (Ok found) = IsCodedHeadOf bytes found
FindsCodedHead bytes (Err fault) = Lasts RefusesCoded bytes fault

-- the head that was seen, or why its framing is refused
abbrev pub IsHeadSeen : Option CodedHead → List ℕ → Result CodedHead WireFault → Type 0
IsHeadSeen seen bytes (Ok found) = (seen ≡ Some found) × IsCodedHeadOf bytes found
IsHeadSeen seen bytes (Err fault) = Lasts RefusesCoded bytes fault

-- the head and the chunks after it, or neither
abbrev pub SeesCodedBody : Option CodedHead → ChunksRead → List ℕ → Type 0
SeesCodedBody None read bytes = read.body.items ≡ []
SeesCodedBody (Some head) read bytes = IsCodedHeadOf bytes head × (read.start ≡ head.len) × HasRead bytes read

-- a stated length within the limit, or chunks
abbrev pub IsBounded : Framing → Type 0
IsBounded (Sized n) = n ≤ 65536
IsBounded Chunks = ⊤
IsBounded ToTheEnd = ⊥

-- a whole body, and the offset at which it ends
pub record IsCodedBodyTo (framing : Framing) (start : ℕ) (bytes body : List ℕ) (end : ℕ) : Type 0 where
  pub within : end ≤ length bytes
  pub there : (more : List ℕ) → IsCodedBody framing (drop start (bytes ++ more)) body (drop end (bytes ++ more))

-- that body from an offset on, or that more bytes are wanted, or why there is none
abbrev pub FindsCodedBody : Framing → ℕ → List ℕ → Result BodyFront WireFault → Type 0
FindsCodedBody framing start bytes (Ok (body.Whole content end)) = IsCodedBodyTo framing start bytes content.items end
FindsCodedBody framing start bytes (Ok (body.Open wanted)) = IsOpenAt (AwaitsBody framing) start bytes wanted
FindsCodedBody framing start bytes (Err fault) = LastsAt (RefusesCodedBody framing start) start bytes fault

-- no such request is whole before what is wanted comes
pub record SeeksCoded (wanted : Wanted) (bytes : List ℕ) : Type 0 where
  pub looked : HasLooked wanted bytes
  pub awaits : (more : List ℕ) → IsMissing wanted (bytes ++ more) → AwaitsCoded (bytes ++ more)

-- a whole request, or that more of its body is wanted, or why there is none whatever follows
abbrev pub IsCodedFront : List ℕ → Result (Option Front) WireFault → Type 0
IsCodedFront bytes (Ok (Some front)) = (front.len ≤ length bytes)
    × IsCodedRequest bytes (request_of front.request) (drop front.len bytes)
IsCodedFront bytes (Ok None) = AwaitsCoded bytes × (length bytes < 139264)
IsCodedFront bytes (Err fault) = Lasts RefusesCoded bytes fault
