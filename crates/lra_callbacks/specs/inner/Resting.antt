-- Rests of a callback worker.
use Rattle.std.specs.Prelude.{ℕ, ◌-◌, Bool, ◌&&◌, not, if◌then◌else◌, min, Option}
use Rattle.std.specs.Option.{option_map_or}

-- the largest number of milliseconds that the worker waits for its sockets: a second, but 50 if it has no room for more
-- or has to look at the time before
abbrev pub most_rest : Bool → Bool → ℕ
most_rest has_room is_watchful = if has_room && not is_watchful then 1_000 else 50

-- the number of milliseconds that it waits: no longer than until something is due if it has room for that, and not at
-- all if something is due already
abbrev pub rest : Option ℕ → ℕ → Bool → Bool → ℕ
rest next now has_room is_watchful =
    let most = most_rest has_room is_watchful in
    if has_room then option_map_or (λ (moment : ℕ). min (moment - now) most) next most else most

-- the same if something goes on at a moment: no longer than until that moment
abbrev pub rest_before : ℕ → ℕ → ℕ → ℕ
rest_before rest moment now = min (moment - now) rest
