-- How long an ask waits before it is repeated.
use Rattle.std.specs.Prelude.{ℕ, ◌-◌, ◌*◌, ◌^◌, min}

-- the pause before the kth repetition, k from 1 on: the base for the first, doubled for each further one, and never
-- more than the cap (this project's choice)
abbrev pub pause : ℕ → ℕ → ℕ → ℕ
pause base cap k = min (base * 2 ^ (k - 1)) cap
