-- Fields as the code holds them.
use Rattle.std.specs.Prelude.{ℕ, List, map}
use Rattle.std.specs.Borrow.{Bor}
use Rattle.lra_courier.specs.Callbacks.{Field}

-- fields by their texts, wherever these lie in memory
abbrev pub seen : List (Bor (List ℕ) × Bor (List ℕ)) → List Field
seen fields = map (λ field. (field.0.now, field.1.now)) fields
