-- A session that answers by itself keeps the base of its URIs.
use Rattle.std.specs.Prelude.{◌≡◌, ℕ, Bool, List, Result, Ok, Err}
use Rattle.std.proofs.Common.{ap}
use Rattle.lra_wire.specs.Request.{Request}
use Rattle.lra_commands.specs.declared.command.Told.{Told}
use Rattle.lra_commands.specs.declared.counter.Order.{Order}
use Rattle.lra_commands.specs.declared.counter.CounterFault.{CounterFault}
use Rattle.lra_commands.specs.Counters.{Sight, KeepsHistory}
use Rattle.lra_front.specs.declared.answer.Answer.{Answer}
use Rattle.lra_front.specs.Serving.{Responds}
use Rattle.lra_steps.specs.declared.handler.Answered.{Answered}
use Rattle.lra_steps.specs.Positions.{AnswersOrdered}
use Rattle.lra_steps.specs.Pieces.{AnswersAlone}

-- the base of a session's URIs
abbrev pub base_of_session : {C : Type 0} → (C → Sight) → C → List ℕ
base_of_session sight session = (sight session).setting.base

-- what the HTTP interface does, without saying whether an order was given
pub responds_of : (gives : Sight → ℕ → Order → Result Told CounterFault → Sight → Type 0)
    (before after : Sight) (moment : ℕ) (request : Request) (answered : Answered)
    → AnswersOrdered gives before moment request answered after
    → Responds gives before moment request after answered.answer
responds_of gives before after moment request answered h = (h.0, h.1, h.2)

pub setting_stays : (gives : Sight → ℕ → Order → Result Told CounterFault → Sight → Type 0)
    (keeps : (before after : Sight) (moment : ℕ) (o : Order) (reply : Result Told CounterFault)
    → gives before moment o reply after → KeepsHistory before moment o reply after)
    (before after : Sight) (moment : ℕ) (request : Request) (answer : Answer)
    → Responds gives before moment request after answer → after.setting ≡ before.setting
setting_stays gives keeps before after moment request answer (Ok w, asks, h) =
    (keeps before after moment h.order h.reply h.given).same.setting
setting_stays gives keeps before after moment request answer (Err d, asks, h) = ap (λ s. s.setting) h.1

pub session_stays : {C : Type 0} (sight : C → Sight) (covers : C → ℕ → Bool)
    (gives : Sight → ℕ → Order → Result Told CounterFault → Sight → Type 0)
    (keeps : (before after : Sight) (moment : ℕ) (o : Order) (reply : Result Told CounterFault)
    → gives before moment o reply after → KeepsHistory before moment o reply after)
    (before after : C) (moment : ℕ) (request : Request) (answered : Answered)
    → AnswersAlone sight covers gives before moment request answered after
    → base_of_session sight after ≡ base_of_session sight before
session_stays sight covers gives keeps before after moment request answered h =
    ap (λ s. s.base) (setting_stays gives keeps (sight before) (sight after) moment request answered.answer
    (responds_of gives (sight before) (sight after) moment request answered h.ordered))

-- a session that rests keeps the base of its URIs
pub rested_base : {C : Type 0} (sight : C → Sight) (before after : C) → after ≡ before → base_of_session sight after
    ≡ base_of_session sight before
rested_base sight before after h = ap (base_of_session sight) h
