-- The orders that a service was given.
use Rattle.std.specs.Prelude.{◌≡◌, ◌⊎◌, ℕ, List, [], ◌∷◌, ◌++◌}
use Rattle.lra_commands.specs.declared.counter.Order.{Order}

-- what giving an order to a journal does to the orders that were given: nothing, or it is added with that journal
abbrev pub Gives : ℕ → Order → List (ℕ × Order) → List (ℕ × Order) → Type 0
Gives i o before after = (after ≡ before) ⊎ (after ≡ before ++ (i, o) ∷ [])
