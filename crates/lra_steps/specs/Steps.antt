-- What a step means.
use Rattle.std.specs.Prelude.{◌≡◌, ◌≢◌, ◌⊎◌, ◌<◌, ◌≤◌, Bool, true, false, List, [], ℕ, length, Some, None, Result, Ok}
use Rattle.std.specs.Prelude.{Err, IsTrue, IsFalse, IsSome}
use Rattle.std.specs.declared.alloc.AllocError.{AllocError}
use Rattle.lra_wire.specs.declared.fault.WireFault.TheVariants.{Cut, Memory}
use Rattle.lra_wire.specs.Request.{Request}
use Rattle.lra_wire.specs.Coded.{IsRequestBy, RefusesFrontBy, RefusesRequestBy, AwaitsRequestBy, most_of}
use Rattle.lra_front.specs.declared.stream.StreamEnd.{StreamEnd}
use Rattle.lra_front.specs.declared.stream.StreamEnd.TheVariants.{Done, Refused, WriteFault}
use Rattle.lra_steps.specs.declared.connection.Step.{Step}
use Rattle.lra_steps.specs.declared.connection.Step.TheVariants.{NeedsInput, RequestReady, ReplyPending, Ended}
use Rattle.lra_steps.specs.History.{History, Turn, room_of, took, ordered, answered, lost, ended_by}

-- the connection goes on, and no request stands
abbrev pub IsFree : History → Type 0
IsFree h = (h.ended ≡ None) × (h.stands ≡ None)

-- Why a connection ends: no more bytes come and none are kept, or the kept bytes are no request and can't become one.
abbrev pub Ends : StreamEnd → History → Type 0
Ends Done h = IsTrue h.closed × (h.kept ≡ [])
Ends (Refused fault) h = ((fault ≢ Memory) × RefusesFrontBy h.chunked h.kept fault)
    ⊎ (IsTrue h.closed × (fault ≡ Cut) × RefusesRequestBy h.chunked h.kept Cut)
Ends WriteFault h = ⊥

-- what a step means for the history before it, and what it changes
abbrev pub StepsTo : Step → History → History → Type 0
StepsTo NeedsInput old new = IsFree old × IsFalse old.closed × AwaitsRequestBy old.chunked old.kept
    × (length old.kept < most_of old.chunked) × (new ≡ old)
StepsTo RequestReady old new = (request : Request) × (rest : List ℕ) × IsFree old
    × IsRequestBy old.chunked old.kept request rest × (new ≡ ordered old request rest)
StepsTo ReplyPending old new = (old.ended ≡ None) × IsSome old.stands × (new ≡ old)
StepsTo (Ended end) old new = ((old.ended ≡ Some end) × (new ≡ old)) ⊎
    (IsFree old × Ends end old × (new ≡ ended_by old end))

-- a step, or that memory was refused, where nothing changes
abbrev pub Steps : Result Step AllocError → History → History → Type 0
Steps (Ok step) old new = StepsTo step old new
Steps (Err _) old new = new ≡ old

-- the bytes were accepted, or there is no room for them
abbrev pub Takes : Result Bool AllocError → List ℕ → History → History → Type 0
Takes (Ok true) bytes old new = (length bytes ≤ room_of old) × (new ≡ took old bytes)
Takes (Ok false) bytes old new = (room_of old < length bytes) × (new ≡ old)
Takes (Err _) bytes old new = new ≡ old

-- the request was answered, or its reply was lost
abbrev pub Tells : Result (Unit {0}) AllocError → History → History → Turn → Type 0
Tells (Ok _) old new turn = new ≡ answered old turn
Tells (Err _) old new turn = new ≡ lost old turn
