-- Moments at which members that were silent may be asked again.
use Rattle.std.specs.Prelude.{◌≡◌, ◌⊎◌, ℕ, ◌+◌, ◌-◌, ◌^◌, Bool, true, Option, Some, None, if◌then◌else◌, min, max}
use Rattle.std.specs.Prelude.{nat_le}
use Rattle.lra_model.specs.declared.asks.AskKind.{AskKind}
use Rattle.lra_model.specs.declared.asks.Outcome.{Outcome}
use Rattle.lra_model.specs.declared.asks.Outcome.TheVariants.{Accepted, Silent}
use Rattle.lra_model.specs.Words.{same_kind, is_silent}
use Rattle.lra_model.specs.Wants.{stage_of}
use Rattle.lra_commands.specs.Errands.{Asking}
use Rattle.lra_callbacks.specs.declared.silences.SilentMember.{SilentMember}

-- an ask of a stage repeats one to which the member was silent
abbrev pub is_again : SilentMember → AskKind → Bool
is_again silence stage = same_kind silence.stage stage

-- the moment from which a member may be asked in a stage, with so many milliseconds between: none (at any time) if it
-- wasn't silent in that stage, and the greatest number (never) if the moment is past that
abbrev pub again : Option SilentMember → AskKind → ℕ → Option ℕ
again None stage pause = None
again (Some silence) stage pause = if is_again silence stage then Some (min (silence.moment + pause) (2 ^ 64 - 1)) else
    None

-- the record of a member after its errand had an outcome at a moment: that it was silent then, or nothing if it wasn't
-- silent or memory is refused
abbrev pub Notes : Asking → Outcome → ℕ → Option SilentMember → Type 0
Notes errand outcome moment known =
    (known ≡ None) ⊎ ((is_silent outcome ≡ true)
    × (known ≡ Some (record { stage = stage_of errand.kind errand.direction; moment = moment })))

-- a clock at a moment has ten seconds or less until the greatest moment (this project's choice)
abbrev pub is_near_end : ℕ → Bool
is_near_end moment = nat_le (2 ^ 64 - 1 - moment) 10_000

-- the least number of milliseconds between two asks of a silent member: as many as the journal's owner set, and at
-- least ten seconds near the end of the clock, where due moments lie no further ahead
abbrev pub pause_at : ℕ → ℕ → ℕ
pause_at told moment = if is_near_end moment then max told 10_000 else told

-- the outcome that an outcome counts as: near the end of the clock a member that is still at it counts as silent
abbrev pub heard_at : Outcome → ℕ → Outcome
heard_at Accepted moment = if is_near_end moment then Silent else Accepted
heard_at outcome moment = outcome
