-- The position in a journal that an answer depends on.
use Rattle.std.specs.Prelude.{ℕ, Bool, None, is_some, IfSome, IsTrue, Result}
use Rattle.lra_wire.specs.Request.{Request}
use Rattle.lra_commands.specs.declared.command.Told.{Told}
use Rattle.lra_commands.specs.declared.counter.Order.{Order}
use Rattle.lra_commands.specs.declared.counter.CounterFault.{CounterFault}
use Rattle.lra_commands.specs.Counters.{Sight}
use Rattle.lra_front.specs.declared.answer.Answer.TheVariants.{Denied}
use Rattle.lra_front.specs.declared.api_error.ApiError.{ApiError}
use Rattle.lra_front.specs.Serving.{Orders}
use Rattle.lra_steps.specs.declared.handler.Answered.{Answered}

-- an API error for which no coordinator was asked: it has no position
abbrev pub denied : ℕ → ApiError → Answered
denied instance api_error = record { instance = instance; answer = Denied api_error; position = None }

-- what the HTTP interface does over a counter: an order was given if and only if the answer has a position
abbrev pub AnswersOrdered : (Sight → ℕ → Order → Result Told CounterFault → Sight → Type 0) → Sight → ℕ → Request
    → Answered → Sight → Type 0
AnswersOrdered gives before moment request answered after =
    Orders gives before moment request after answered.answer (is_some answered.position)

-- if the answer has a position, so many bytes of the session's journal record all that the session has seen
abbrev pub IsCovered : {C : Type 0} → (C → ℕ → Bool) → C → Answered → Type 0
IsCovered covers session answered = IfSome answered.position (λ n. IsTrue (covers session n))
