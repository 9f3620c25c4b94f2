-- What one visit does. It doesn't change what a session was made with.
use Rattle.std.specs.Prelude.{◌≡◌, ℕ, Bool, List, Option, Some, None, IfSome, IsSomeAnd, IsTrue, Result, Ok, Err}
use Rattle.std.proofs.Common.{ap, refl}
use Rattle.lra_wire.specs.Request.{Request}
use Rattle.lra_commands.specs.declared.command.Told.{Told}
use Rattle.lra_commands.specs.declared.counter.Order.{Order}
use Rattle.lra_commands.specs.declared.counter.CounterFault.{CounterFault}
use Rattle.lra_commands.specs.Counters.{Sight, KeepsHistory}
use Rattle.lra_front.specs.declared.answer.Answer.{Answer}
use Rattle.lra_front.specs.Replies.{HasIdentifiers}
use Rattle.lra_front.specs.Serving.{Responds}
use Rattle.lra_steps.specs.declared.handler.Answered.{Answered}
use Rattle.lra_steps.specs.Positions.{AnswersOrdered, IsCovered}
use Rattle.lra_journal_sets.specs.Counted.{name}
use Rattle.lra_journal_sets.specs.JournalSets.{MovesAt}
use Rattle.lra_journal_router.specs.Serving.{DoesOrdered, IsCoveredAt}

pub responds_stays : (gives : Sight → ℕ → Order → Result Told CounterFault → Sight → Type 0)
    (keeps : (before after : Sight) (moment : ℕ) (o : Order) (reply : Result Told CounterFault)
    → gives before moment o reply after → KeepsHistory before moment o reply after)
    (before after : Sight) (moment : ℕ) (request : Request) (answer : Answer)
    → Responds gives before moment request after answer → after.setting ≡ before.setting
responds_stays gives keeps before after moment request answer (Ok w, asks, h) =
    (keeps before after moment h.order h.reply h.given).same.setting
responds_stays gives keeps before after moment request answer (Err d, asks, h) = ap (λ s. s.setting) h.1

module _ {C : Type 0} (sight : C → Sight) (covers : C → ℕ → Bool) (gives : Sight → ℕ → Order → Result Told
    CounterFault → Sight → Type 0) where
  -- what the front does over one session
  abbrev pub Answers : Sight → ℕ → Request → Answered → Sight → Type 0
  Answers before moment request answered after =
      DoesOrdered sight covers gives before (record { request = request; moment = moment; answered = answered }) after
      × HasIdentifiers answered.answer

  -- the session of an instance answers and every other stays as it was, or there is no such session
  abbrev pub Visits : ℕ → ℕ → Request → Option Answered → List Sight → List Sight → Type 0
  Visits i moment request r before after = MovesAt name i before (λ s t. IsSomeAnd r (λ a. Answers s moment request a
      t)) (r ≡ None) after

  -- a session covers a position by what is known of it
  pub covered_at : (session : C) (position : Option ℕ) → IfSome position (λ n. IsTrue (covers session n)) → IfSome
      position (IsCoveredAt sight covers gives (sight session))
  covered_at session None h = tt
  covered_at session (Some n) h = (session, refl, h)

  pub answers_stay : (keeps : (before after : Sight) (moment : ℕ) (o : Order) (reply : Result Told CounterFault) →
      gives before moment o reply after → KeepsHistory before moment o reply after)
      (before after : Sight) (moment : ℕ) (request : Request) (answered : Answered) → Answers before moment request
      answered after → after.setting ≡ before.setting
  answers_stay keeps before after moment request answered h =
      let a = h.0.0 in responds_stays gives keeps before after moment request answered.answer (a.0, a.1, a.2)
