-- Handler that gets only the requests that are let in.
use Rattle.std.specs.Prelude.{◌≡◌, ℕ, is_some, Option, None, MatchOption}
use Rattle.lra_wire.specs.Request.{Request}
use Rattle.lra_front.specs.declared.api_error.ApiError.{ApiError}
use Rattle.lra_front.specs.declared.answer.Answer.TheVariants as answer
use Rattle.lra_steps.specs.declared.handler.Answered.{Answered}
use Rattle.lra_steps.specs.Retries.{with_retry}
use Rattle.lra_admission.specs.Admitting.{Rules, api_error_of}

-- the handler's state, the keys and names in force, and the seconds after which requests may be sent again, if replies
-- to those that are refused for what goes away by itself say it
pub record Guard (S : Type 0) : Type 0 where
  pub inner : S
  pub rules : Rules
  pub retry : Option ℕ

-- the request is answered with the API error, and nothing was done, so that the answer waits for no sync
pub record Denies {S : Type 0} (before : S) (answered : Answered) (after : S) (d : ApiError) : Type 0 where
  pub answer : answered.answer ≡ answer.Denied d
  pub position : answered.position ≡ None
  pub unchanged : after ≡ before

-- the request does what it does without a guard, and its answer leaves with those seconds where it has to say them
pub record Passes {S : Type 0} (responds : S → ℕ → Request → Answered → S → Type 0) (retry : Option ℕ) (before : S)
    (moment : ℕ) (request : Request) (answered : Answered) (after : S) : Type 0 where
  pub own : Answered
  pub does : responds before moment request own after
  pub leaves : answered ≡ with_retry retry own

-- What a request at a moment does. First the rules in force from then on are checked. By these the request is let in,
-- and does what it does without a guard, or it is denied.
pub record Responds {S : Type 0} (looks : Rules → Rules → Type 0) (responds : S → ℕ → Request → Answered → S → Type 0)
    (before : Guard S) (moment : ℕ) (request : Request) (answered : Answered) (after : Guard S) : Type 0 where
  pub looked : looks before.rules after.rules
  pub retry : after.retry ≡ before.retry
  pub done : MatchOption (api_error_of after.rules request.fields)
      (Passes responds before.retry before.inner moment request answered after.inner)
      (Denies before.inner answered after.inner)

-- a rest is that of the handler; the rules stay in force, and so do the seconds
pub record Rests {S : Type 0} (rests : S → S → Type 0) (before after : Guard S) : Type 0 where
  pub inner : rests before.inner after.inner
  pub rules : after.rules ≡ before.rules
  pub retry : after.retry ≡ before.retry

-- a check of the file of the keys: other keys may be in force after it, but keys are still asked for if they were, and
-- the names stay
pub record RenewsKeys (before after : Rules) : Type 0 where
  pub asked : is_some after.keys ≡ is_some before.keys
  pub names : after.names ≡ before.names
