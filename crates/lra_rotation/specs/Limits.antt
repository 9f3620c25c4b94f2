-- Limits of a journal, the pauses that they make, and the rows that are settled.
use Rattle.std.specs.Prelude.{ℕ, ◌-◌, ◌*◌, ◌^◌, Bool, true, false, not, ◌&&◌, ◌||◌, if◌then◌else◌, ◌==◌, nat_le, nat_lt}
use Rattle.std.specs.Prelude.{is_some}
use Rattle.lra_model.specs.declared.status.ActionStatus.{ActionStatus}
use Rattle.lra_model.specs.Words as words
use Rattle.lra_commands.specs.declared.query.Row.{Row}
use Rattle.lra_commands.specs.declared.query.Row.TheVariants as row
use Rattle.lra_rotation.specs.declared.limits.Counts.{Counts}

-- a journal has as much of something as it is to have (this project's choice)
abbrev pub has_reached : Counts → Counts → Bool
has_reached counts most = nat_le most.actions counts.actions || nat_le most.members counts.members
    || nat_le most.entries counts.entries || nat_le most.bytes counts.bytes

-- a journal has 15/16 of what it may have of something (this project's choice)
abbrev pub is_near_limit : ℕ → ℕ → Bool
is_near_limit count limit = nat_le (limit * 15) (count * 16)

-- the least number of milliseconds before a silent member is asked again, by the entries that there are and that there
-- may be: ten minutes from 3/4 of them on, and never, which is the greatest number, from 15/16 on (this project's
-- choice)
abbrev pub least_pause : ℕ → ℕ → ℕ
least_pause entries limit = if is_near_limit entries limit then 2 ^ 64 - 1 else if nat_le (limit * 3) (entries * 4) then
    600_000 else 0

-- the number of milliseconds before the next attempt at a failed step: a second, then twice as long as before, and a
-- minute at most (this project's choice)
abbrev pub longer_pause : ℕ → ℕ
longer_pause pause = if pause == 0 then 1_000 else if nat_lt pause 32_000 then pause * 2 else 60_000

-- an action has ended
abbrev pub has_ended : ActionStatus → Bool
has_ended status = words.has_ended status

-- nothing of a row is left to be done: its action has ended, or its member is asked nothing and is to be asked nothing
abbrev pub is_settled : Row → Bool
is_settled (row.Action a status parent) = has_ended status
is_settled (row.Member p status ask want) = not (is_some ask) && not (is_some want)

-- a row is a member's
abbrev pub is_member : Row → Bool
is_member (row.Action a status parent) = false
is_member (row.Member p status ask want) = true

-- nothing is left to be done of a row, which is of an action that has ended or of one of its members, where operators
-- may have given the member up: such a member isn't notified any more that its action has ended (this project's choice)
abbrev pub is_done_with : Row → Bool → Bool
is_done_with r is_given_up = is_settled r || is_given_up && is_member r
