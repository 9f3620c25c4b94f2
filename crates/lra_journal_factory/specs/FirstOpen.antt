-- Journals of a restored folder.
use Rattle.std.specs.Prelude.{ℕ, ◌+◌, ◌-◌, ◌^◌, min, Option, None, Some}

-- the least number of an instance whose journal accepts new work: all do, unless the folder was restored up to one
abbrev pub first_open : Option ℕ → ℕ
first_open None = 0
first_open (Some last) = min (2 ^ 64 - 1) (last + 1)
