-- What a target does to the orders that were given.
use Rattle.std.specs.Prelude.{◌≡◌, ◌⊎◌, ℕ, List, [], ◌∷◌, ◌++◌}
use Rattle.lra_commands.specs.declared.counter.Order.{Order}
use Rattle.lra_operators.specs.declared.operation.Operation.{Operation}
use Rattle.lra_operators.specs.Orders.{IsAsked}

-- what a target does to the orders that were given: nothing, or the one that it asks for is added
abbrev pub Orders : List ℕ → Operation → List (ℕ × Order) → List (ℕ × Order) → Type 0
Orders target p before after = (after ≡ before) ⊎ ((i : ℕ) × (o : Order) × IsAsked target p i o
    × (after ≡ before ++ (i, o) ∷ []))
