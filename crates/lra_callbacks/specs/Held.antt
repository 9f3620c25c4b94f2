-- Errands that are under way.
use Rattle.std.specs.Prelude.{ℕ, List, Option, None, slice_index_or}
use Rattle.lra_courier.specs.CallbackPools.{Handed}

-- the errand and its position in a slot, if one is under way there
abbrev pub errand_at : List (Option Handed) → ℕ → Option Handed
errand_at errands place = slice_index_or errands place None
