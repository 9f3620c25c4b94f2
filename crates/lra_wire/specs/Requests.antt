-- The requests that a stream of bytes spells, one after another, and how they end.
use Rattle.std.specs.Prelude.{◌≡◌, ◌⊎◌, ℕ, List, [], ◌∷◌, Option, Some, None, ⊤}
use Rattle.lra_wire.specs.declared.fault.WireFault.{WireFault}
use Rattle.lra_wire.specs.declared.fault.WireFault.TheVariants.{BadHead, Chunked, BadLength, TooLarge, Cut, Io, Memory}
use Rattle.lra_wire.specs.Inbox.{IsOutside}
use Rattle.lra_wire.specs.Request.{Request, IsRequest, RefusesRequest}

-- The bytes are these requests, and then nothing, or bytes that are refused with that fault.
abbrev pub Requests : List ℕ → List Request → Option WireFault → Type 0
Requests bytes [] None = bytes ≡ []
Requests bytes [] (Some fault) = ¬ (IsOutside fault) × RefusesRequest bytes fault
Requests bytes (request ∷ requests) end = (rest : List ℕ) × IsRequest bytes request rest × Requests rest requests end

-- a fault of a head: where a stream ends in a head that no continuation makes valid, both hold
abbrev pub IsHeadFault : WireFault → Type 0
IsHeadFault BadHead = ⊤
IsHeadFault Cut = ⊤
IsHeadFault Chunked = ⊥
IsHeadFault BadLength = ⊥
IsHeadFault TooLarge = ⊥
IsHeadFault Io = ⊥
IsHeadFault Memory = ⊥

-- two ends of a stream are equal, or both are faults of a head
abbrev pub EndsAlike : Option WireFault → Option WireFault → Type 0
EndsAlike None None = ⊤
EndsAlike (Some fault) (Some other) = (fault ≡ other) ⊎ (IsHeadFault fault × IsHeadFault other)
EndsAlike None (Some other) = ⊥
EndsAlike (Some fault) None = ⊥
