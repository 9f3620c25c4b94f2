-- Handler that is called with the request that another means.
use Rattle.std.specs.Prelude.{◌≡◌, ℕ, None}
use Rattle.lra_wire.specs.Request.{Request}
use Rattle.lra_commands.specs.declared.refusal.Refusal.TheVariants as refusal
use Rattle.lra_front.specs.declared.api_error.ApiError.TheVariants as api_error
use Rattle.lra_front.specs.declared.answer.Answer.TheVariants as answer
use Rattle.lra_steps.specs.declared.handler.Answered.{Answered}

-- a request of which this holds is answered
pub record AnswersSome {S : Type 0} (responds : S → ℕ → Request → Answered → S → Type 0) (is_meant : Request → Type 0)
    (before : S) (moment : ℕ) (answered : Answered) (after : S) : Type 0 where
  pub meant : Request
  pub means : is_meant meant
  pub does : responds before moment meant answered after

-- memory was refused, for this reason, and nothing was done
pub record LacksSome {S : Type 0} (reason : Type 0) (before : S) (answered : Answered) (after : S) : Type 0 where
  pub lacks : reason
  pub answer : answered.answer ≡ answer.Denied (api_error.Refused refusal.Memory)
  pub position : answered.position ≡ None
  pub unchanged : after ≡ before
