-- Refusals that go away by themselves, and what their replies say then.
use Rattle.std.specs.Prelude.{ℕ, Bool, true, false, not, if◌then◌else◌, Option, Some, None, is_some}
use Rattle.lra_commands.specs.declared.refusal.Refusal.{Refusal}
use Rattle.lra_commands.specs.declared.refusal.Refusal.TheVariants as refusal
use Rattle.lra_front.specs.declared.api_error.ApiError.TheVariants.{Refused}
use Rattle.lra_front.specs.declared.answer.Answer.{Answer}
use Rattle.lra_front.specs.declared.answer.Answer.TheVariants.{Denied, Retry}
use Rattle.lra_steps.specs.declared.handler.Answered.{Answered}

-- A refusal goes away by itself: memory was refused; or a journal set can't answer for a journal yet, and so no
-- coordinator was asked. A coordinator that has stopped stays so, and one that is full too (this project's choice).
abbrev pub is_passing : Bool → Refusal → Bool
is_passing is_asked refusal.Memory = true
is_passing is_asked refusal.Stopped = not is_asked
is_passing is_asked _ = false

-- the refusal that an answer tells of, if it tells of one
abbrev pub refusal_of : Answer → Option Refusal
refusal_of (Denied (Refused r)) = Some r
refusal_of _ = None

-- a refused request's answer: with the seconds if the refusal goes away by itself, and else as it was
abbrev pub answer_to : ℕ → Bool → Answer → Option Refusal → Answer
answer_to seconds is_asked answer None = answer
answer_to seconds is_asked answer (Some r) = if is_passing is_asked r then Retry r seconds else answer

-- an answer as it leaves: with the seconds after which its request may be sent again, if the service gives them and the
-- answer is a refusal that goes away by itself (RFC 9110, section 10.2.3); every other answer as it was
abbrev pub with_retry : Option ℕ → Answered → Answered
with_retry None answered = answered
with_retry (Some seconds) answered = record answered {
  answer = answer_to seconds (is_some answered.position) answered.answer (refusal_of answered.answer);
}
