-- A handler that gets no joins outside the rules.
use Rattle.std.specs.Prelude.{◌≡◌, ◌⊎◌, ℕ, false, List, None}
use Rattle.lra_wire.specs.Request.{Request}
use Rattle.lra_commands.specs.declared.refusal.Refusal.{Refusal}
use Rattle.lra_front.specs.declared.api_error.ApiError.TheVariants as api_error
use Rattle.lra_front.specs.declared.answer.Answer.TheVariants as answer
use Rattle.lra_steps.specs.declared.handler.Answered.{Answered}
use Rattle.lra_member_rules.specs.Ruling.{is_outside, IsRefusedBy}

-- the handler's state, and the rules
pub record Served (S : Type 0) : Type 0 where
  pub inner : S
  pub rules : List (List ℕ)

module _ {S : Type 0} (responds : S → ℕ → Request → Answered → S → Type 0) where
  -- a request that isn't outside the rules is answered by the handler
  abbrev pub Answers : Served S → ℕ → Request → Answered → S → Type 0
  Answers before moment request answered after = (is_outside before.rules request ≡ false)
      × responds before.inner moment request answered after

  -- a request that is refused does nothing
  pub record Refuses (before : Served S) (request : Request) (answered : Answered) (after : S) : Type 0 where
    pub refusal : Refusal
    pub why : IsRefusedBy before.rules request refusal
    pub answer : answered.answer ≡ answer.Denied (api_error.Refused refusal)
    pub position : answered.position ≡ None
    pub unchanged : after ≡ before.inner

  -- What a request at a moment does. The rules stay.
  pub record Responds (before : Served S) (moment : ℕ) (request : Request) (answered : Answered)
      (after : Served S) : Type 0 where
    pub rules : after.rules ≡ before.rules
    pub inner : Answers before moment request answered after.inner ⊎ Refuses before request answered after.inner

module _ {S : Type 0} (rests : S → S → Type 0) where
  -- what a rest does: that of the handler; the rules stay
  pub record Rests (before after : Served S) : Type 0 where
    pub rules : after.rules ≡ before.rules
    pub inner : rests before.inner after.inner
