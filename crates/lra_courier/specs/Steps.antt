-- What a step means.
use Rattle.std.specs.Prelude.{◌≡◌, ◌⊎◌, ◌<◌, ◌≤◌, Bool, true, false, List, ℕ, length, Some, None, Result, Ok, Err}
use Rattle.std.specs.Prelude.{IsFalse}
use Rattle.std.specs.declared.alloc.AllocError.{AllocError}
use Rattle.lra_wire.specs.Response.{AwaitsResponse}
use Rattle.lra_courier.specs.declared.callback_exchange.Step.{Step}
use Rattle.lra_courier.specs.declared.callback_exchange.Step.TheVariants.{Sends, NeedsInput, Came}
use Rattle.lra_courier.specs.Carried.{Carried, IsSent, Comes, room_of, took, tells}

-- What a step means for all before it, and what it changes. More bytes are wanted only where those that came are no
-- whole response. The result of a callback stays.
abbrev pub StepsTo : Step → Carried → Carried → Type 0
StepsTo Sends old new = (old.came ≡ None) × IsFalse old.failed × (old.advance_by < length old.request) × (new ≡ old)
StepsTo NeedsInput old new = (old.came ≡ None) × IsFalse old.failed × IsFalse old.closed × IsSent old
    × AwaitsResponse old.taken × (length old.taken < 1048576) × (new ≡ old)
StepsTo (Came told) old new = ((old.came ≡ None) ⊎ (old.came ≡ Some told)) × Comes old told × (new ≡ tells old told)

-- a step, or that memory was refused, where nothing changes
abbrev pub Steps : Result Step AllocError → Carried → Carried → Type 0
Steps (Ok step) old new = StepsTo step old new
Steps (Err _) old new = new ≡ old

-- the bytes were accepted, or there is no room for them
abbrev pub Takes : Result Bool AllocError → List ℕ → Carried → Carried → Type 0
Takes (Ok true) bytes old new = (length bytes ≤ room_of old) × (new ≡ took old bytes)
Takes (Ok false) bytes old new = (room_of old < length bytes) × (new ≡ old)
Takes (Err _) bytes old new = new ≡ old
