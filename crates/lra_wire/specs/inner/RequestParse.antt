-- What a search for a request finds in the bytes that came so far.
use Rattle.std.specs.Prelude.{ℕ, ◌<◌, ◌≤◌, ◌≡◌, List, ◌++◌, length, Some, Result, Ok, Err}
use Rattle.httparse.specs.Grammar.{HasNoRequest, MayBecomeRequest}
use Rattle.lra_wire.specs.declared.fault.WireFault.{WireFault}
use Rattle.lra_wire.specs.declared.front.RequestParse.{RequestParse}
use Rattle.lra_wire.specs.declared.front.RequestParse.TheVariants.{Whole, OpenHead, OpenBody}
use Rattle.lra_wire.specs.Fronts.{RefusesFront, IsFront}
use Rattle.lra_wire.specs.Request.{EndsInBody, IsOpenRequest, AwaitsRequest}

-- the bytes begin with a whole head, and its body isn't whole before there are so many bytes
pub record LacksBody (wanted : ℕ) (bytes : List ℕ) : Type 0 where
  pub few : length bytes < wanted
  pub bound : wanted ≤ 73728
  pub body : (more : List ℕ) → length (bytes ++ more) < wanted → EndsInBody (bytes ++ more)

-- a whole request, or a head that isn't whole, or a body that isn't, or a fault
abbrev pub IsSought : List ℕ → Result RequestParse WireFault → Type 0
IsSought bytes (Ok (Whole front)) = IsFront bytes (Ok (Some front))
IsSought bytes (Ok OpenHead) = HasNoRequest bytes × MayBecomeRequest bytes × (length bytes < 8192)
IsSought bytes (Ok (OpenBody wanted)) = LacksBody wanted bytes
IsSought bytes (Err fault) = RefusesFront bytes fault

-- there is no whole request. A head that isn't whole follows the grammar up to its last line feed.
pub record StaysOpen (wanted : ℕ) (bytes : List ℕ) : Type 0 where
  pub awaits : AwaitsRequest bytes
  pub bound : length bytes < 73728
  pub head : wanted ≡ 0 → IsOpenRequest bytes
