-- Outcomes that an errand may have.
use Rattle.std.specs.Prelude.{◌≡◌, ◌⊎◌, ℕ, Bool, true, Some, Result, refl}
use Rattle.std.specs.Result.{result_unwrap_or}
use Rattle.std.proofs.Common.{ap, inl, inr}
use Rattle.std.proofs.Math.Logic.{∥∥₁_elim}
use mathlib.Core.Bool.{Bool-set}
use Rattle.lra_model.specs.declared.asks.AskKind.{AskKind}
use Rattle.lra_model.specs.declared.asks.AskKind.TheVariants as ask
use Rattle.lra_model.specs.declared.asks.Outcome.{Outcome}
use Rattle.lra_model.specs.declared.asks.Outcome.TheVariants.{Silent}
use Rattle.lra_model.specs.Words.{outcome_suits}
use Rattle.lra_commands.specs.Errands.{Asking}
use Rattle.lra_courier.specs.declared.fault.CallFault.{CallFault}
use Rattle.lra_courier.specs.Callbacks.{Extra, calling_of, calling_with, request_bytes}
use Rattle.lra_courier.specs.Carried.{Carried, IsCarried}
use Rattle.lra_durable.specs.Leaves.{MayLeave}

-- the callback exchange is that of an errand, with these extra fields
pub record IsForWith (extra : Extra) (carried : Carried) (errand : Asking) : Type 0 where
  pub kind : carried.kind ≡ errand.kind
  pub direction : carried.direction ≡ errand.direction
  pub request : carried.request ≡ request_bytes (calling_with extra (calling_of errand))

-- the callback exchange is that of an errand, with some extra fields
pub record IsFor (carried : Carried) (errand : Asking) : Type 0 where
  pub extra : Extra
  pub own : IsForWith extra carried errand

-- An outcome came of a callback for an ask of this number and kind: the request was sent once the journal was durable
-- up to the errand's position, and this is the callback's outcome.
pub record Comes (keeps : ℕ → Bool) (position ask : ℕ) (kind : AskKind) (outcome : Outcome) : Type 0 where
  pub kept : ℕ
  pub leave : MayLeave keeps position kept
  pub errand : Asking
  pub of_ask : errand.ask ≡ ask
  pub of_kind : errand.kind ≡ kind
  pub carried : Carried
  pub steps : IsCarried carried
  pub own : IsFor carried errand
  pub told : Result Outcome CallFault
  pub came : carried.came ≡ Some told
  pub as_told : outcome ≡ result_unwrap_or told Silent
  pub suits : outcome_suits kind outcome ≡ true

-- an outcome came of such a callback, or it is silence
abbrev pub MayCome : (ℕ → Bool) → ℕ → ℕ → AskKind → Outcome → Type 0
MayCome keeps position ask kind outcome = ∥ Comes keeps position ask kind outcome ∥₁ ⊎ (outcome ≡ Silent)

-- the same for some journal of a group
pub record OfGroup (keeps : ℕ → ℕ → Bool) (position ask : ℕ) (kind : AskKind) (outcome : Outcome) : Type 0 where
  pub instance : ℕ
  pub came : MayCome (keeps instance) position ask kind outcome

-- the same for some position
pub record MayComeOf (keeps : ℕ → ℕ → Bool) (ask : ℕ) (kind : AskKind) (outcome : Outcome) : Type 0 where
  pub position : ℕ
  pub of : OfGroup keeps position ask kind outcome

-- silence suits every kind of ask
silence_suits : (kind : AskKind) (outcome : Outcome) → outcome ≡ Silent → outcome_suits kind outcome ≡ true
silence_suits ask.Complete outcome e = refl
silence_suits ask.Compensate outcome e = refl
silence_suits ask.Status outcome e = refl
silence_suits ask.Forget outcome e = ap (λ (o : Outcome). outcome_suits ask.Forget o) e
silence_suits ask.After outcome e = ap (λ (o : Outcome). outcome_suits ask.After o) e

-- an outcome that may come suits the kind of its ask
coming_suits : (keeps : ℕ → Bool) (position ask : ℕ) (kind : AskKind) (outcome : Outcome)
    → MayCome keeps position ask kind outcome → outcome_suits kind outcome ≡ true
coming_suits keeps position ask kind outcome (inl came) = ∥∥₁_elim came (Bool-set _ _) (λ comes. comes.suits)
coming_suits keeps position ask kind outcome (inr silent) = silence_suits kind outcome silent

-- an outcome that may come of an ask suits its kind, whatever its journal and position are
pub coming_of_suits : (keeps : ℕ → ℕ → Bool) (ask : ℕ) (kind : AskKind) (outcome : Outcome)
    → MayComeOf keeps ask kind outcome → outcome_suits kind outcome ≡ true
coming_of_suits keeps ask kind outcome c = coming_suits (keeps c.of.instance) c.position ask kind outcome c.of.came

-- each ask may have silence as its outcome
pub silence_comes_of : (keeps : ℕ → ℕ → Bool) (ask : ℕ) (kind : AskKind) → MayComeOf keeps ask kind Silent
silence_comes_of keeps ask kind = record { position = 0; of = record { instance = 0; came = inr refl } }
