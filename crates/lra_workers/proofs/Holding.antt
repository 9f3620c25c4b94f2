-- Properties that the errands under way keep.
use Rattle.std.proofs.Common.{◌≡◌, ℕ, zero, suc, Bool, true, false, [], ◌∷◌, ◌++◌, Option, Some, None, inl, inr, refl}
use Rattle.std.proofs.Common.{sym, ap, ◌∙◌, subst, append_assoc, append-nil}
use Rattle.std.specs.Prelude.{◌==◌, Result, Ok, Err, MatchResult}
use Rattle.std.specs.Option.{option_map_or, option_or}
use Rattle.std.proofs.lemmas.Bool.{eqb-true, eqb-false}
use Rattle.std.proofs.lemmas.Option.{same_Some}
use mathlib.Core.List.{IsPrefix}
use Rattle.lra_model.specs.declared.asks.AskKind.{AskKind}
use Rattle.lra_model.specs.declared.asks.Outcome.{Outcome}
use Rattle.lra_model.specs.declared.entry.Entry.{Entry}
use Rattle.lra_model.specs.History.{History}
use Rattle.lra_model.specs.Members.{Asked, asked_at, ask_of}
use Rattle.lra_model.specs.Words.{when}
use Rattle.lra_laws.proofs.Push.{step, ask_of_push}
use Rattle.lra_ticket.specs.declared.view.View.{View}
use Rattle.lra_ticket.proofs.Histories.{prefix_refl, prefix_trans}
use Rattle.lra_commands.specs.Answers.{growth}
use Rattle.lra_commands.specs.Counters.{Setting, terms_of}
use Rattle.lra_commands.specs.Errands.{Asking}
use Rattle.lra_commands.specs.Given.{ask_carried, IsOfAsk}
use Rattle.lra_commands.specs.Calls.{Call}
use Rattle.lra_commands.specs.declared.refusal.Refusal.TheVariants.{NotAsked}
use Rattle.lra_courier.specs.CallbackPools.{Handed, Places, AreSame, AreFree, Gains}
use Rattle.lra_office.specs.declared.fault.OfficeRefusal.TheVariants as office
use Rattle.lra_office.specs.declared.fault.OfficeRefusal.{OfficeRefusal}
use Rattle.lra_office.specs.Orders.{IsNotGiven, IsLookedAhead}
use Rattle.lra_workers.specs.declared.worker.WorkerEnd.{WorkerEnd}
use Rattle.lra_workers.specs.declared.worker.WorkerEnd.TheVariants.{Ended, Held, Refused}
use Rattle.lra_workers.specs.Work.{Post, Does, Fails, WorksIn, Works, WorksUpTo}
use Rattle.lra_workers.specs.CallbackExchange.{GoesOn, CarriesIn, Carries, EndsCallbackWorker}
use Rattle.lra_workers.specs.Handed.{IsHanded, AreHanded}
use Rattle.lra_workers.proofs.Working.{works_none}
use Rattle.lra_workers.proofs.CallbackExchangeOn.{foretold_seen, carries_none}

-- ---- an ask in a history is one in each that goes on from it

asked_push : (J : History) (e : Entry) (n : ℕ) (x : Asked) → ask_of J n ≡ Some x → ask_of (J ++ e ∷ []) n ≡ Some x
asked_push J e n x h = ask_of_push J e n ∙ ap (λ (o : Option Asked). option_or o
    (option_map_or (λ (a : Asked). when (a.number == n) a) (asked_at (step J e)) None)) h

asked_on : (es J : History) (n : ℕ) (x : Asked) → ask_of J n ≡ Some x → ask_of (J ++ es) n ≡ Some x
asked_on [] J n x h = subst (λ (K : History). ask_of K n ≡ Some x) (sym (append-nil J)) h
asked_on (e ∷ es) J n x h = subst (λ (K : History). ask_of K n ≡ Some x) (append_assoc J (e ∷ []) es)
    (asked_on es (J ++ e ∷ []) n x (asked_push J e n x h))

pub of_ask_on : (J K : History) (e : Asking) → IsPrefix J K → IsOfAsk J e → IsOfAsk K e
of_ask_on J K e p h = subst (λ (M : History). IsOfAsk M e) p.1 (asked_on p.0 J e.ask (ask_carried e) h)

module _ {O : Type 0} (covers : O → History → ℕ → Bool) where
  pub asks_stay : (J K : History) (places : Places) → IsPrefix J K → AreHanded covers J places
      → AreHanded covers K places
  asks_stay J K places p h place e here = let x = h place e here in
      record { of_ask = of_ask_on J K e.0 p x.of_ask; told = x.told }

  -- ---- errands come and go

  pub same_asks : (J : History) (old new : Places) → AreSame old new → AreHanded covers J old → AreHanded covers J new
  same_asks J old new same h place e here = h place e (sym (same place) ∙ here)

  pub no_asks : (J : History) (places : Places) → AreFree places → AreHanded covers J places
  no_asks J places free place e here = absurd (none (sym (free place) ∙ here))
    where
      none : None ≡ Some e → ⊥
      none h = absurd cc

  pub gained_asks : (J : History) (old new : Places) (e : Handed) → Gains old new e → IsHanded covers J e
      → AreHanded covers J old → AreHanded covers J new
  gained_asks J old new e g is h place x here = at (place == g.place) refl
    where
      at : (b : Bool) → (place == g.place) ≡ b → IsHanded covers J x
      at true same = subst (IsHanded covers J) (same_Some e x (sym g.here
          ∙ (ap new (sym (eqb-true place g.place same)) ∙ here))) is
      at false other = h place x (sym (g.others place (eqb-false place g.place other)) ∙ here)

  pub lost_ask : (J : History) (old new : Places) (e : Handed) → Gains new old e → AreHanded covers J old
      → IsOfAsk J e.0
  lost_ask J old new e g h = (h g.place e g.here).of_ask

  pub lost_asks : (J : History) (old new : Places) (e : Handed) → Gains new old e → AreHanded covers J old
      → AreHanded covers J new
  lost_asks J old new e g h place x here = at (place == g.place) refl
    where
      none : None ≡ Some x → IsHanded covers J x
      none c = absurd cc

      at : (b : Bool) → (place == g.place) ≡ b → IsHanded covers J x
      at true same = none (sym g.free ∙ (ap new (sym (eqb-true place g.place same)) ∙ here))
      at false other = h place x (g.others place (eqb-false place g.place other) ∙ here)

-- ---- calls show all that was seen

module _ {O K : Type 0} (setting : O → Setting) (gives : ℕ → AskKind → Outcome → Type 0) (tells : K → ℕ → K → Type 0)
  where
    done_seen : (s t : Post O K) → Does setting gives tells s t → IsPrefix s.view.seen t.view.seen
    done_seen s t d =
        let J = d.given.history in
        let more = growth (terms_of (setting s.view.origin)) J d.call in
        subst (λ (w : View O). IsPrefix s.view.seen w.seen) (sym d.given.after)
        (prefix_trans s.view.seen J (J ++ more) d.given.met.begins (more, refl))

    refused_seen : (v w : View O) (c : Call) → IsNotGiven (setting v.origin) v c (office.Refused NotAsked) w
        → IsPrefix v.seen w.seen
    refused_seen v w c (J, met, back, after) = subst (λ (x : View O). IsPrefix v.seen x.seen) (sym after) met.begins

    worked_in : (n : ℕ) (s t : Post O K) → WorksIn setting gives tells n s t → IsPrefix s.view.seen t.view.seen
    unfolding WorksIn
    worked_in zero s t h = subst (λ (u : Post O K). IsPrefix s.view.seen u.view.seen) h (prefix_refl s.view.seen)
    worked_in (suc n) s t (u, before, inl d) = prefix_trans s.view.seen u.view.seen t.view.seen (worked_in n s u before)
        (done_seen u t d)
    worked_in (suc n) s t (u, before, inr f) = prefix_trans s.view.seen u.view.seen t.view.seen (worked_in n s u before)
        (refused_seen u.view t.view f.call f.given)

    -- a worker has seen all that it had seen before
    pub worked : (s t : Post O K) → ((r : Post O K) → Works setting gives tells r s → Works setting gives tells r t)
        → IsPrefix s.view.seen t.view.seen
    worked s t h = let w = h s (works_none setting gives tells s) in worked_in w.0 s t w.1

    -- a refusal takes away nothing of what a worker has seen
    not_given : (g : Setting) (v w : View O) (c : Call) (r : OfficeRefusal) → IsNotGiven g v c r w
        → IsPrefix v.seen w.seen
    not_given g v w c office.Worn h = subst (λ (x : View O). IsPrefix v.seen x.seen) (sym h) (prefix_refl v.seen)
    not_given g v w c (office.Refused r) (J, met, back, after) = subst (λ (x : View O). IsPrefix v.seen x.seen)
        (sym after) met.begins

    pub works_seen : (s t : Post O K) → Works setting gives tells s t → IsPrefix s.view.seen t.view.seen
    works_seen s t w = worked_in w.0 s t w.1

    pub fails_seen : (s t : Post O K) (r : OfficeRefusal) → Fails setting gives tells s r t
        → IsPrefix s.view.seen t.view.seen
    fails_seen s t r f = not_given (setting s.view.origin) s.view t.view f.call r f.given

    pub foreseen : (g : Setting) (v w : View O) (r : Result (Option ℕ) OfficeRefusal) → IsLookedAhead g v r w
        → IsPrefix v.seen w.seen
    foreseen g v w (Ok next) h = foretold_seen g v w next h
    foreseen g v w (Err office.Worn) h = subst (λ (x : View O). IsPrefix v.seen x.seen) (sym h) (prefix_refl v.seen)
    foreseen g v w (Err (office.Refused r)) h = absurd h

    steps_seen : (s t : Post O K) → GoesOn setting gives tells s t → IsPrefix s.view.seen t.view.seen
    steps_seen s t (inl look) = foreseen (setting s.view.origin) s.view t.view (Ok look.0) look.1.told
    steps_seen s t (inr f) = fails_seen s t _ f

    carried_in : (n : ℕ) (s t : Post O K) → CarriesIn setting gives tells n s t → IsPrefix s.view.seen t.view.seen
    unfolding CarriesIn
    carried_in zero s t h = works_seen s t h
    carried_in (suc n) s t (u, v, before, step, h) =
        prefix_trans s.view.seen v.view.seen t.view.seen (prefix_trans s.view.seen u.view.seen v.view.seen
        (carried_in n s u before) (steps_seen u v step)) (works_seen v t h)

    pub carries_seen : (s t : Post O K) → Carries setting gives tells s t → IsPrefix s.view.seen t.view.seen
    carries_seen s t h = carried_in h.0 s t h.1

    ended_seen : (s t : Post O K) (end : WorkerEnd) → EndsCallbackWorker setting gives tells s end t
        → IsPrefix s.view.seen t.view.seen
    ended_seen s t Ended h = carries_seen s t h
    ended_seen s t Held h = carries_seen s t h
    ended_seen s t (Refused r) (u, before, inl f, ends) = prefix_trans s.view.seen u.view.seen t.view.seen
        (carries_seen s u before) (fails_seen u t r f)
    ended_seen s t (Refused r) (u, before, inr look, ends) = prefix_trans s.view.seen u.view.seen t.view.seen
        (carries_seen s u before) (foreseen (setting u.view.origin) u.view t.view (Err r) look.told)

    -- a callback worker has seen all that it had seen before, however its work ended
    pub carried : {A : Type 0} (s t : Post O K) (r : Result A WorkerEnd)
        → ((x : Post O K) → Carries setting gives tells x s → MatchResult r (λ _. Carries setting gives tells x t)
        (λ end. EndsCallbackWorker setting gives tells x end t)) → IsPrefix s.view.seen t.view.seen
    carried s t (Ok y) h = carries_seen s t (h s (carries_none setting gives tells s))
    carried s t (Err end) h = ended_seen s t end (h s (carries_none setting gives tells s))

    -- the same for a worker's calls
    pub worked_up_to : {A : Type 0} (s t : Post O K) (r : Result A OfficeRefusal)
        → ((x : Post O K) → Works setting gives tells x s → MatchResult r (λ _. Works setting gives tells x t)
        (λ e. WorksUpTo setting gives tells x e t)) → IsPrefix s.view.seen t.view.seen
    worked_up_to s t (Ok y) h = works_seen s t (h s (works_none setting gives tells s))
    worked_up_to s t (Err r) h = let (u, before, f, ends) = h s (works_none setting gives tells s) in
        prefix_trans s.view.seen u.view.seen t.view.seen (works_seen s u before) (fails_seen u t r f)
