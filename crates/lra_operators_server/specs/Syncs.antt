-- Time that a sync may take (this project's own).
use Rattle.std.specs.Prelude.{ℕ, ◌*◌, ◌-◌, ◌^◌, min}

-- the milliseconds of so many seconds, or the greatest number of 64 bits if there are more
abbrev pub limit_of : ℕ → ℕ
limit_of seconds = min (seconds * 1000) (2 ^ 64 - 1)
