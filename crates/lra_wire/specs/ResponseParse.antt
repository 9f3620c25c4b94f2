-- What the bytes of a response that came so far spell, where their stream may go on.
use Rattle.std.specs.Prelude.{ℕ, ◌<◌, ◌≤◌, List, ◌++◌, length, drop, Result, Ok, Err, ⊤}
use Rattle.lra_wire.specs.declared.response_parse.ResponseParse.{ResponseParse}
use Rattle.lra_wire.specs.declared.response_parse.ResponseParse.TheVariants.{Whole, Open}
use Rattle.lra_wire.specs.declared.fault.WireFault.{WireFault}
use Rattle.lra_wire.specs.declared.fault.WireFault.TheVariants.{BadHead, Chunked, BadLength, TooLarge, Cut, Io, Memory}
use Rattle.lra_wire.specs.Response.{IsResponse, RefusesResponse, AwaitsResponse}

-- The fault is one of the bytes, whatever follows them, and not of a stream's end or of a reader. A fault of memory
-- says nothing of the bytes.
abbrev pub Lasts : (List ℕ → WireFault → Type 0) → List ℕ → WireFault → Type 0
Lasts Refuses bytes BadHead = (more : List ℕ) → Refuses (bytes ++ more) BadHead
Lasts Refuses bytes Chunked = (more : List ℕ) → Refuses (bytes ++ more) Chunked
Lasts Refuses bytes BadLength = (more : List ℕ) → Refuses (bytes ++ more) BadLength
Lasts Refuses bytes TooLarge = (more : List ℕ) → Refuses (bytes ++ more) TooLarge
Lasts Refuses bytes Memory = ⊤
Lasts Refuses bytes Cut = ⊥
Lasts Refuses bytes Io = ⊥

-- so many bytes at the beginning are that response, whatever follows them
pub record IsWhole (bytes : List ℕ) (code : ℕ) (body : List ℕ) (len : ℕ) : Type 0 where
  pub within : len ≤ length bytes
  pub stays : (more : List ℕ) → IsResponse (bytes ++ more) code body (drop len bytes ++ more)

-- no response is whole before there are so many bytes, which are no more than the largest response has
pub record IsOpen (bytes : List ℕ) (wanted : ℕ) : Type 0 where
  pub few : length bytes < wanted
  pub bound : wanted ≤ 1048576
  pub awaits : (more : List ℕ) → length (bytes ++ more) < wanted → AwaitsResponse (bytes ++ more)

-- a whole response, or how many bytes are wanted, or why the bytes begin with no response
abbrev pub IsComing : List ℕ → Result ResponseParse WireFault → Type 0
IsComing bytes (Ok (Whole read len)) = IsWhole bytes read.code read.body.items len
IsComing bytes (Ok (Open wanted)) = IsOpen bytes wanted
IsComing bytes (Err fault) = Lasts RefusesResponse bytes fault
