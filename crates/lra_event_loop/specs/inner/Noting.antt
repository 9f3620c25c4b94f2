-- Changes of the positions that replies wait for.
use Rattle.std.specs.Prelude.{◌⊎◌, ℕ, Bool, List, IfSome}
use Rattle.lra_steps.specs.declared.handler.Answered.{Answered}
use Rattle.lra_steps.specs.History.{Turn}
use Rattle.lra_event_loop.specs.declared.positions.Position.{Position}
use Rattle.lra_event_loop.specs.declared.positions.Positions.{Positions}
use Rattle.lra_event_loop.specs.Waiting.{AreNoted, IsDurable, WaitFor}

-- the positions still reach as far as before
abbrev pub Goes : Positions → Positions → Type 0
Goes old new = (instance n : ℕ) → WaitFor old instance n → WaitFor new instance n

-- they still reach as far as before, and also to one more position
pub record Adds (old new : Positions) (position : Position) : Type 0 where
  pub goes : Goes old new
  pub added : WaitFor new position.instance position.length

-- they still reach as far as before, and also to the position of an answer, if it has one
pub record Notes (old new : Positions) (answered : Answered) : Type 0 where
  pub goes : Goes old new
  pub noted : IfSome answered.position (WaitFor new answered.instance)

-- each position reached before is still reached, or was durable
abbrev pub Settles : (ℕ → ℕ → Bool) → Positions → Positions → Type 0
Settles keeps old new = (instance n : ℕ) → WaitFor old instance n → IsDurable keeps instance n ⊎ WaitFor new instance n

-- if all turns before were durable or noted, so are the present ones, whatever is durable
abbrev pub KeepsNoted : List Turn → List Turn → Positions → Positions → Type 0
KeepsNoted turns more old new = (keeps : ℕ → ℕ → Bool) → AreNoted keeps old turns → AreNoted keeps new more
