-- Errands that are under way in a callback pool, each in a slot of its own.
use Rattle.std.specs.Prelude.{◌≡◌, ◌≢◌, ℕ, Option, Some, None}
use Rattle.lra_commands.specs.Errands.{Asking}

-- An errand that is under way, and its position: how many bytes of its journal have to be durable before its request is
-- sent.
abbrev pub Handed : Type 0
Handed = Asking × ℕ

-- the errand that is under way in each slot
abbrev pub Places : Type 0
Places = ℕ → Option Handed

-- the same errands are under way, in the same slots
abbrev pub AreSame : Places → Places → Type 0
AreSame old new = (place : ℕ) → new place ≡ old place

-- no errand is under way
abbrev pub AreFree : Places → Type 0
AreFree places = (place : ℕ) → places place ≡ None

-- one more errand is under way, in a slot that was free, and every other stays in its slot
pub record Gains (old new : Places) (handed : Handed) : Type 0 where
  pub place : ℕ
  pub free : old place ≡ None
  pub here : new place ≡ Some handed
  pub others : (other : ℕ) → other ≢ place → new other ≡ old other
