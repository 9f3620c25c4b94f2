-- Pauses of a callback worker that is refused memory.
use Rattle.std.specs.Prelude.{ℕ, Bool, ◌==◌, max}
use Rattle.lra_timers.specs.Pauses.{pause}

-- the number of milliseconds of a pause after so many refusals of memory in a row: ten, then twice as long each time,
-- and a second at most (this project's choice)
abbrev pub pause_after : ℕ → ℕ
pause_after refusals = pause 10 1_000 (max refusals 1)

-- that pause is the longest one
abbrev pub is_longest : ℕ → Bool
is_longest refusals = pause_after refusals == 1_000
