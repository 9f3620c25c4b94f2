-- Answers that say that a coordinator has stopped.
use Rattle.std.specs.Prelude.{Bool, true, false, ◌&&◌, is_some}
use Rattle.lra_commands.specs.declared.refusal.Refusal.TheVariants.{Stopped}
use Rattle.lra_front.specs.declared.api_error.ApiError.TheVariants.{Refused}
use Rattle.lra_front.specs.declared.answer.Answer.{Answer}
use Rattle.lra_front.specs.declared.answer.Answer.TheVariants.{Denied}
use Rattle.lra_steps.specs.declared.handler.Answered.{Answered}

-- an answer has the word for a coordinator that has stopped
abbrev pub says_stopped : Answer → Bool
says_stopped (Denied (Refused Stopped)) = true
says_stopped _ = false

-- a coordinator was asked, since the answer has a position, and says that it has stopped: a journal set that can't
-- answer for a journal yet refuses with the same word, and asks none (this project's choice)
abbrev pub has_stopped : Answered → Bool
has_stopped answered = is_some answered.position && says_stopped answered.answer
