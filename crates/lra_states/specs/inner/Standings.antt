-- How the unanswered ask of a member is stored.
use Rattle.std.specs.Prelude.{◌≡◌, ℕ, Bool, true, false, cond, Option, Some, None}
use Rattle.std.proofs.Common.{refl, sym}
use Rattle.lra_model.specs.declared.asks.AskKind.{AskKind}
use Rattle.lra_model.specs.declared.asks.AskKind.TheVariants as ask
use Rattle.lra_model.specs.declared.asks.Direction.{Direction}
use Rattle.lra_model.specs.declared.asks.Direction.TheVariants as direction
use Rattle.lra_laws.specs.Rows.{Standing}
use Rattle.lra_states.specs.declared.state.Awaited.TheInside.{Inside}

-- the ask that is stored, where there is one
abbrev pub awaited : Inside → Option Standing
awaited a = cond a.is_there (Some (record { number = a.number; kind = a.kind; direction = a.direction })) None

-- the fields that store it
abbrev pub kept : Option Standing → Inside
kept None = record { number = 0; kind = ask.Complete; direction = direction.Completion; is_there = false }
kept (Some s) = record { number = s.number; kind = s.kind; direction = s.direction; is_there = true }

-- where there is none, the other fields have these values
abbrev pub IsPlain : Bool → ℕ → AskKind → Direction → Type 0
IsPlain true number kind way = Unit {0}
IsPlain false number kind way = (number ≡ 0) × (kind ≡ ask.Complete) × (way ≡ direction.Completion)

abbrev pub IsKept : Inside → Type 0
IsKept a = IsPlain a.is_there a.number a.kind a.direction

-- the fields that store the ask of some fields are those fields
pub kept_awaited : (a : Inside) → IsKept a → kept (awaited a) ≡ a
kept_awaited a h = decide a.is_there refl h
  where
    decide : (b : Bool) → a.is_there ≡ b → IsPlain b a.number a.kind a.direction
        → kept (cond b (Some (record { number = a.number; kind = a.kind; direction = a.direction })) None) ≡ a
    decide true e g = λ i. record { number = a.number; kind = a.kind; direction = a.direction; is_there = sym e i }
    decide false e g = λ i. record { number = sym g.0 i; kind = sym g.1 i; direction = sym g.2 i; is_there = sym e i }
