-- What a query returns of a row.
use Rattle.std.specs.Prelude.{ℕ, Bool, Option}
use Rattle.std.specs.Option.{option_and_then}
use Rattle.lra_model.specs.Words.{when}
use Rattle.lra_commands.specs.declared.query.QueryResult.{QueryResult}

-- what a query returns of a row at a place, if it is there and passes a test
abbrev pub told_at : {X : Type 0} → (X → Bool) → (ℕ → X → QueryResult) → ℕ → Option X → Option QueryResult
told_at test told place found = option_and_then (λ x. when (test x) (told place x)) found
