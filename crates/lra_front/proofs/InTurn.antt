-- What a stream's orders write, in their order.
use Rattle.std.proofs.Common.{◌≡◌, ℕ, List, [], ◌∷◌, ◌++◌, Result, Ok, Err, refl, sym, ap, ◌∙◌, subst, append-nil}
use Rattle.std.proofs.Common.{append_assoc}
use Rattle.lra_model.specs.History.{History}
use Rattle.lra_commands.specs.declared.command.Told.{Told}
use Rattle.lra_commands.specs.declared.counter.Order.{Order}
use Rattle.lra_commands.specs.declared.counter.CounterFault.{CounterFault}
use Rattle.lra_commands.specs.Counters.{Sight, KeepsHistory, terms_of, call_of, entries_under, added_by}
use Rattle.lra_commands.proofs.Writers.{counters_write}
use Rattle.lra_front.specs.declared.answer.Answer.{Answer}
use Rattle.lra_front.specs.declared.api_error.ApiError.{ApiError}
use Rattle.lra_front.specs.declared.api_request.ApiRequest.{ApiRequest}
use Rattle.lra_front.specs.Serving.{Does}
use Rattle.lra_front.specs.Transcripts.{Turn, Chain, IsAdded, AreAdded, AreWrittenInTurn}

module _ (K : Type 0) (gives : Sight → ℕ → Order → Result Told CounterFault → Sight → Type 0)
    (tells : K → ℕ → K → Type 0)
    (keeps : (before after : Sight) (moment : ℕ) (o : Order) (reply : Result Told CounterFault)
    → gives before moment o reply after → KeepsHistory before moment o reply after) where
  -- what one request adds, and that its clerk keeps its number
  one_added : (v : Sight) (moment : ℕ) (w : Result ApiRequest ApiError) (u : Sight) (a : Answer)
      (h : Does gives v moment w u a)
      → (added : History) × IsAdded gives tells v moment w u a h added × (u.number ≡ v.number)
      × (entries_under v.number u.seen ≡ entries_under v.number v.seen ++ added)
  one_added v moment (Ok api_request) u a h =
      let kept = keeps v u moment h.order h.reply h.given in
      let once = counters_write v u moment h.order h.reply kept in (
        added_by (terms_of v.setting) once.met (call_of v.number moment h.order) h.reply,
        (once.met, once.begins, refl),
        kept.same.number,
        once.written,
      )
  one_added v moment (Err api_error) u a h = (
    [],
    refl,
    ap (λ (x : Sight). x.number) h.1,
    ap (λ (x : Sight). entries_under v.number x.seen) h.1
        ∙ sym (append-nil (entries_under v.number v.seen)),
  )

  in_turn : (v w : Sight) (k l : K) (turns : List Turn) (chain : Chain gives tells v k turns w l)
      → (added : History) × AreAdded gives tells v k turns w l chain added
      × (entries_under v.number w.seen ≡ entries_under v.number v.seen ++ added)
  in_turn v w k l [] chain = (
    [],
    refl,
    ap (λ (x : Sight). entries_under v.number x.seen) chain.0
        ∙ sym (append-nil (entries_under v.number v.seen)),
  )
  in_turn v w k l (turn ∷ turns) chain =
      let u : Sight = chain.0 in
      let one = one_added v turn.moment chain.3.0 u turn.answer chain.3.2 in
      let rest = in_turn u w chain.1 l turns chain.4 in
      let onwards = subst (λ (n : ℕ). entries_under n w.seen ≡ entries_under n u.seen ++ rest.0) one.2 rest.2 in (
        one.0 ++ rest.0,
        (one.0, rest.0, one.1, rest.1, refl),
        onwards ∙ ap (λ (l : History). l ++ rest.0) one.3 ∙ append_assoc (entries_under v.number v.seen) one.0 rest.0,
      )

-- a stream's orders are written in turn
pub written_in_turn : (K : Type 0) (gives : Sight → ℕ → Order → Result Told CounterFault → Sight → Type 0)
    (tells : K → ℕ → K → Type 0)
    → ((before after : Sight) (moment : ℕ) (o : Order) (reply : Result Told CounterFault)
    → gives before moment o reply after → KeepsHistory before moment o reply after)
    → AreWrittenInTurn gives tells
written_in_turn K gives tells keeps v w k l turns chain = in_turn K gives tells keeps v w k l turns chain
