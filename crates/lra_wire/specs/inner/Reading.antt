-- One reading of a message, from an inbox to an inbox.
use Rattle.std.specs.Prelude.{◌≡◌, ℕ, ◌≤◌, List, length, drop, Option, Result, Ok, Err, IfSome, []}
use Rattle.lra_wire.specs.declared.fault.WireFault.{WireFault}
use Rattle.lra_wire.specs.declared.inbox.Inbox.{Inbox}
use Rattle.lra_wire.specs.declared.response.ResponseRead.{ResponseRead}
use Rattle.lra_wire.specs.Inbox.{stream_of}
use Rattle.lra_wire.specs.Response.{IsResponse, RefusesResponse}
use Rattle.lra_wire.specs.Streams.{IfBothKnown}
use Rattle.lra_wire.specs.declared.request.RequestRead.{RequestRead}
use Rattle.lra_wire.specs.Request.{GivesRequest, RefusesRequest}

-- the request that the stream begins with, and the rest of the stream, or why there is no request
abbrev pub NextRequest : {R : Type 0} → (R → Option (List ℕ)) → Inbox R → Inbox R
    → Result (Option RequestRead) WireFault → Type 0
NextRequest remaining old new (Ok read) = IfBothKnown (stream_of remaining old) (stream_of remaining new)
    (GivesRequest read)
NextRequest remaining old new (Err fault) = IfSome (stream_of remaining old) (λ bytes. RefusesRequest bytes fault)

-- A stream that ends with these bytes has no further request: there are no bytes, or they are refused with that fault.
abbrev pub EndsAt : List ℕ → Result (Unit {0}) WireFault → Type 0
EndsAt bytes (Ok u) = bytes ≡ []
EndsAt bytes (Err fault) = RefusesRequest bytes fault

-- the response that the stream begins with, and the rest of the stream, or why there is no response
abbrev pub NextResponse : {R : Type 0} → (R → Option (List ℕ)) → Inbox R → Inbox R → Result ResponseRead WireFault
    → Type 0
NextResponse remaining old new (Ok read) = IfBothKnown (stream_of remaining old) (stream_of remaining new)
    (λ bytes rest. IsResponse bytes read.code read.body.items rest)
NextResponse remaining old new (Err fault) = IfSome (stream_of remaining old) (λ bytes. RefusesResponse bytes fault)

-- the response of a stream that ends with these bytes, and the number of its bytes, or why there is none
abbrev pub IsLast : List ℕ → Result (ResponseRead × ℕ) WireFault → Type 0
IsLast bytes (Ok found) = (found.1 ≤ length bytes) × IsResponse bytes found.0.code found.0.body.items
    (drop found.1 bytes)
IsLast bytes (Err fault) = RefusesResponse bytes fault
