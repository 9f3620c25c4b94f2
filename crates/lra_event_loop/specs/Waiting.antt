-- The positions up to which journals have to be durable before replies leave.
use Rattle.std.specs.Prelude.{◌≡◌, ◌⊎◌, ◌≤◌, ℕ, Bool, List, Option, IfSome, IsSomeAnd}
use Rattle.std.specs.List.{AllByRecursion}
use Rattle.lra_durable.specs.Leaves.{MayLeave}
use Rattle.lra_steps.specs.declared.handler.Answered.{Answered}
use Rattle.lra_steps.specs.History.{Turn}
use Rattle.lra_event_loop.specs.declared.positions.Position.{Position}
use Rattle.lra_event_loop.specs.declared.positions.Positions.{Positions}

-- so many bytes of the journal of an instance are durable, and maybe more
abbrev pub IsDurable : (ℕ → ℕ → Bool) → ℕ → ℕ → Type 0
IsDurable keeps instance n = (kept : ℕ) × MayLeave (keeps instance) n kept

-- a position reaches to so many bytes of the journal of an instance
abbrev pub Reaches : Option Position → ℕ → ℕ → Type 0
Reaches place instance n = IsSomeAnd place (λ p. (p.instance ≡ instance) × (n ≤ p.length))

-- one of the positions reaches so far
abbrev pub WaitFor : Positions → ℕ → ℕ → Type 0
WaitFor ps instance n = Reaches ps.first instance n ⊎ Reaches ps.other instance n

-- The journal of its instance is durable up to an answer's position; an answer without one waits for no sync.
abbrev pub MayGo : (ℕ → ℕ → Bool) → Answered → Type 0
MayGo keeps answered = IfSome answered.position (IsDurable keeps answered.instance)

-- the journal of its instance is durable up to an answer's position, or the positions reach to it
abbrev pub IsNoted : (ℕ → ℕ → Bool) → Positions → Answered → Type 0
IsNoted keeps ps answered = IfSome answered.position (λ n. IsDurable keeps answered.instance n ⊎ WaitFor ps
    answered.instance n)

-- the journals are durable up to the answer's position of each turn of a connection
abbrev pub AllMayGo : (ℕ → ℕ → Bool) → List Turn → Type 0
AllMayGo keeps turns = AllByRecursion (λ turn. MayGo keeps turn.answered) turns

-- the position of each of these turns is durable, or noted
abbrev pub AreNoted : (ℕ → ℕ → Bool) → Positions → List Turn → Type 0
AreNoted keeps ps turns = AllByRecursion (λ turn. IsNoted keeps ps turn.answered) turns
