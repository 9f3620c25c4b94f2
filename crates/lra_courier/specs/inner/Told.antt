-- What is found in the bytes after a request.
use Rattle.std.specs.Prelude.{◌≢◌, ℕ, ◌<◌, Bool, List, ◌++◌, length, Option, Some, None, Result, Ok, Err, IsFalse, ⊤}
use Rattle.std.specs.declared.alloc.AllocError.{AllocError}
use Rattle.lra_model.specs.declared.asks.AskKind.{AskKind}
use Rattle.lra_model.specs.declared.asks.Direction.{Direction}
use Rattle.lra_model.specs.declared.asks.Outcome.{Outcome}
use Rattle.lra_wire.specs.declared.fault.WireFault.{WireFault}
use Rattle.lra_wire.specs.declared.fault.WireFault.TheVariants.{Io, Memory}
use Rattle.lra_wire.specs.ResponseParse.{Lasts}
use Rattle.lra_wire.specs.Response.{RefusesResponse, AwaitsResponse}
use Rattle.lra_courier.specs.Carried.{IsReply, Replies}

-- the outcome of a response, or why there is none, whatever follows; or more bytes are wanted
abbrev pub TellsSoFar : AskKind → Direction → List ℕ → Result (Option (Result Outcome WireFault)) AllocError → Type 0
TellsSoFar kind direction bytes (Ok (Some (Ok outcome))) = (more : List ℕ) → (rest : List ℕ)
    × IsReply kind direction (bytes ++ more) rest outcome
TellsSoFar kind direction bytes (Ok (Some (Err fault))) = (fault ≢ Memory) × Lasts RefusesResponse bytes fault
TellsSoFar kind direction bytes (Ok None) = AwaitsResponse bytes × (length bytes < 1048576)
TellsSoFar kind direction bytes (Err _) = ⊤

-- the same for a stream that ends with the bytes
abbrev pub TellsAtEnd : AskKind → Direction → List ℕ → Result (Result Outcome WireFault) AllocError → Type 0
TellsAtEnd kind direction bytes (Ok (Ok outcome)) = (rest : List ℕ) × IsReply kind direction bytes rest outcome
TellsAtEnd kind direction bytes (Ok (Err fault)) = (fault ≢ Memory) × (fault ≢ Io) × RefusesResponse bytes fault
TellsAtEnd kind direction bytes (Err _) = ⊤

-- the result of the bytes; or more bytes are wanted, and may come
abbrev pub Looks : Bool → Bool → AskKind → Direction → List ℕ → Result (Option (Result Outcome WireFault)) AllocError
    → Type 0
Looks closed failed kind direction bytes (Ok (Some told)) = Replies closed failed kind direction bytes told
Looks closed failed kind direction bytes (Ok None) = IsFalse failed × IsFalse closed × AwaitsResponse bytes
    × (length bytes < 1048576)
Looks closed failed kind direction bytes (Err _) = ⊤
