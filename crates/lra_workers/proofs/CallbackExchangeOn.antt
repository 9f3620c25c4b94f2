-- A worker's calls, with looks ahead between them.
use Rattle.std.proofs.Common.{◌≡◌, ◌≢◌, ℕ, zero, suc, true, inl, inr, refl, sym, subst, Option}
use Rattle.std.specs.Prelude.{Result, Ok, Err, MatchResult}
use mathlib.Core.List.{IsPrefix}
use Rattle.lra_model.specs.declared.asks.AskKind.{AskKind}
use Rattle.lra_model.specs.declared.asks.Outcome.{Outcome}
use Rattle.lra_ticket.specs.declared.view.View.{View}
use Rattle.lra_commands.specs.Counters.{Setting}
use Rattle.lra_commands.specs.declared.refusal.Refusal.TheVariants.{Memory, Stopped}
use Rattle.lra_office.specs.declared.fault.OfficeRefusal.{OfficeRefusal}
use Rattle.lra_office.specs.declared.fault.OfficeRefusal.TheVariants as office
use Rattle.lra_office.specs.Orders.{IsForetold, IsLookedAhead}
use Rattle.lra_schedule.specs.Schedules.{IsFirstMoment}
use Rattle.lra_workers.specs.declared.worker.WorkerEnd.{WorkerEnd}
use Rattle.lra_workers.specs.declared.worker.WorkerEnd.TheVariants.{Ended, Held, Refused}
use Rattle.lra_workers.specs.Work.{Post, post, Fails, Works, EndsWork}
use Rattle.lra_workers.specs.CallbackExchange.{CarriesIn, Carries, CarriesUpTo, EndsCallbackWorker, is_for_memory}
use Rattle.lra_workers.proofs.Working.{works_none}

-- a clerk that looks ahead has seen all that it had seen before
pub foretold_seen : {O : Type 0} (g : Setting) (v w : View O) (next : Option ℕ) → IsForetold g v next w
    → IsPrefix v.seen w.seen
foretold_seen g v w next h = subst (λ (x : View _). IsPrefix v.seen x.seen) (sym h.after) h.met.begins

-- the moment that it gets is that of just what it has seen then
pub foretold_first : {O : Type 0} (set : O → Setting) (v w : View O) (next : Option ℕ)
    → IsForetold (set v.origin) v next w → IsFirstMoment (set w.origin).limits w.seen next
foretold_first set v w next h = subst (λ (x : View _). IsFirstMoment (set x.origin).limits x.seen next) (sym h.after)
    h.told

-- a look ahead never says that the scribe has stopped
pub looked_not_stopped : {O : Type 0} (g : Setting) (v w : View O) (x : OfficeRefusal) → IsLookedAhead g v (Err x) w → x
    ≢ office.Refused Stopped
looked_not_stopped g v w office.Worn h e = absurd cc
looked_not_stopped g v w (office.Refused r) h e = absurd h

-- a refusal that ends a callback worker for lack of memory alone is that one
pub memory_of : (r : OfficeRefusal) → is_for_memory (Refused r) ≡ true → r ≡ office.Refused Memory
memory_of office.Worn is = absurd cc
memory_of (office.Refused Memory) is = refl
memory_of (office.Refused r) is = absurd cc

module _ {O K : Type 0} (setting : O → Setting) (gives : ℕ → AskKind → Outcome → Type 0) (tells : K → ℕ → K → Type 0)
  where
    pub carries_none : (s : Post O K) → Carries setting gives tells s s
    unfolding CarriesIn
    carries_none s = (0, works_none setting gives tells s)

    pub carries_on : (s a b : Post O K)
        → ((x : Post O K) → Works setting gives tells x a → Works setting gives tells x b)
        → Carries setting gives tells s a → Carries setting gives tells s b
    unfolding CarriesIn
    carries_on s a b more (zero, h) = (0, more s h)
    carries_on s a b more (suc n, (u, v, before, step, h)) = (suc n, (u, v, before, step, more v h))

    pub carries_up_to : (s a b : Post O K) (r : OfficeRefusal) → ((x : Post O K) → Works setting gives tells x a
        → EndsWork setting gives tells x (Refused r) b) → Carries setting gives tells s a
        → CarriesUpTo setting gives tells s r b
    unfolding CarriesIn
    carries_up_to s a b r more (zero, h) = let (w, works, fails, ends) = more s h in (w, (0, works), inl fails, ends)
    carries_up_to s a b r more (suc n, (u, v, before, step, h)) = let (w, works, fails, ends) = more v h in
        (w, (suc n, (u, v, before, step, works)), inl fails, ends)

    pub ends_callback_worker : (s a b : Post O K) (end : WorkerEnd) → ((x : Post O K) → Works setting gives tells x a
        → EndsWork setting gives tells x end b) → Carries setting gives tells s a
        → EndsCallbackWorker setting gives tells s end b
    ends_callback_worker s a b Ended more h = carries_on s a b more h
    ends_callback_worker s a b Held more h = carries_on s a b more h
    ends_callback_worker s a b (Refused r) more h = carries_up_to s a b r more h

    -- a worker's calls are calls of a callback worker
    pub carries : {A : Type 0} (s a b : Post O K) (r : Result A WorkerEnd)
        → ((x : Post O K) → Works setting gives tells x a → MatchResult r (λ _. Works setting gives tells x b)
        (λ end. EndsWork setting gives tells x end b))
        → Carries setting gives tells s a → MatchResult r (λ _. Carries setting gives tells s b)
        (λ end. EndsCallbackWorker setting gives tells s end b)
    carries s a b (Ok y) more h = carries_on s a b more h
    carries s a b (Err end) more h = ends_callback_worker s a b end more h

    -- a look ahead
    pub looks : (s : Post O K) (v w : View O) (k : K) (r : Result (Option ℕ) OfficeRefusal)
        → IsLookedAhead (setting v.origin) v r w → Carries setting gives tells s (post v k)
        → MatchResult r (λ _. Carries setting gives tells s (post w k)) (λ x. CarriesUpTo setting gives tells s x
        (post w k))
    unfolding CarriesIn
    looks s v w k (Ok next) h before = (
      suc before.0,
      (
        post v k,
        post w k,
        before.1,
        inl (next, record { clock = refl; told = h }),
        works_none setting gives tells (post w k),
      ),
    )
    looks s v w k (Err office.Worn) h before = (post v k, before, inr (record { clock = refl; told = h }), tt)
    looks s v w k (Err (office.Refused r)) h before = absurd h

    -- a call that is refused for lack of memory is passed over
    pub refused : (s a b : Post O K) → Carries setting gives tells s a → Fails setting gives tells a
        (office.Refused Memory) b → Carries setting gives tells s b
    unfolding CarriesIn
    refused s a b before f = (suc before.0, (a, b, before.1, inr f, works_none setting gives tells b))

    -- a worker that has ended for lack of memory alone may go on
    pub goes_on : (s t : Post O K) (end : WorkerEnd) → is_for_memory end ≡ true
        → EndsCallbackWorker setting gives tells s end t → Carries setting gives tells s t
    goes_on s t Ended is h = h
    goes_on s t Held is h = h
    goes_on s t (Refused office.Worn) is h = absurd cc
    goes_on s t (Refused (office.Refused Memory)) is (u, before, inl f, ends) = refused s u t before f
    goes_on s t (Refused (office.Refused Memory)) is (u, before, inr look, ends) = absurd look.told
    goes_on s t (Refused (office.Refused r)) is h = absurd cc

    -- the calls of one turn, if the worker goes on after it
    pub goes_on_turn : (s a b : Post O K) (r : Result (Unit {0}) WorkerEnd) (end : WorkerEnd) → r ≡ Err end
        → is_for_memory end ≡ true
        → ((x : Post O K) → Carries setting gives tells x a → MatchResult r (λ _. Carries setting gives tells x b)
        (λ e. EndsCallbackWorker setting gives tells x e b)) → Carries setting gives tells s a
        → Carries setting gives tells s b
    goes_on_turn s a b r end same is more before =
        goes_on s b end is (subst (λ (q : Result (Unit {0}) WorkerEnd). MatchResult q
        (λ _. Carries setting gives tells s b) (λ e. EndsCallbackWorker setting gives tells s e b)) same
        (more s before))
