-- The errands that a callback pool holds.
use Rattle.std.specs.Prelude.{◌≡◌, ℕ, Bool, Some, IsTrue}
use Rattle.lra_model.specs.History.{History}
use Rattle.lra_commands.specs.Errands.{Asking}
use Rattle.lra_commands.specs.Given.{IsOfAsk}
use Rattle.lra_courier.specs.CallbackPools.{Handed, Places}

-- so many bytes of the journal cover a whole history with an errand's ask
pub record IsTold {O : Type 0} (covers : O → History → ℕ → Bool) (handed : Handed) : Type 0 where
  pub origin : O
  pub seen : History
  pub of_ask : IsOfAsk seen handed.0
  pub covered : IsTrue (covers origin seen handed.1)

-- an errand is of an ask in a history, and its position covers the history that was seen when it was handed over
pub record IsHanded {O : Type 0} (covers : O → History → ℕ → Bool) (J : History) (handed : Handed) : Type 0 where
  pub of_ask : IsOfAsk J handed.0
  pub told : IsTold covers handed

-- so is each errand that is under way
abbrev pub AreHanded : {O : Type 0} → (O → History → ℕ → Bool) → History → Places → Type 0
AreHanded covers J places = (place : ℕ) (handed : Handed) → places place ≡ Some handed → IsHanded covers J handed
