-- The calls of a callback worker, which has many errands under way: it looks ahead too, and goes on if memory is
-- refused.
use Rattle.std.specs.Prelude.{◌≡◌, ◌⊎◌, ℕ, zero, suc, Bool, true, false, Option, Result, Ok, Err}
use Rattle.lra_model.specs.declared.asks.AskKind.{AskKind}
use Rattle.lra_model.specs.declared.asks.Outcome.{Outcome}
use Rattle.lra_commands.specs.Counters.{Setting}
use Rattle.lra_commands.specs.declared.refusal.Refusal.TheVariants.{Memory}
use Rattle.lra_office.specs.declared.fault.OfficeRefusal.{OfficeRefusal}
use Rattle.lra_office.specs.declared.fault.OfficeRefusal.TheVariants as office
use Rattle.lra_office.specs.Orders.{IsLookedAhead}
use Rattle.lra_workers.specs.declared.worker.WorkerEnd.{WorkerEnd}
use Rattle.lra_workers.specs.declared.worker.WorkerEnd.TheVariants.{Ended, Held, Refused}
use Rattle.lra_workers.specs.Work.{Post, Fails, Works, EndsWorker}

-- a worker has ended only because memory was refused
abbrev pub is_for_memory : WorkerEnd → Bool
is_for_memory (Refused (office.Refused Memory)) = true
is_for_memory _ = false

module _ {O K : Type 0} (setting : O → Setting) (gives : ℕ → AskKind → Outcome → Type 0) (tells : K → ℕ → K → Type 0)
  where
    -- a worker asks for the first moment at which something is due or late, and its clock isn't read
    pub record LooksAhead (s : Post O K) (r : Result (Option ℕ) OfficeRefusal) (t : Post O K) : Type 0 where
      pub clock : t.clock ≡ s.clock
      pub told : IsLookedAhead (setting s.view.origin) s.view r t.view

    -- it gets that moment, or a call of its is refused for lack of memory
    abbrev pub GoesOn : Post O K → Post O K → Type 0
    GoesOn s t = ((next : Option ℕ) × LooksAhead s (Ok next) t) ⊎ Fails setting gives tells s (office.Refused Memory) t

    -- it gives a worker's calls, and goes on so many times between them
    unfoldable pub CarriesIn : ℕ → Post O K → Post O K → Type 0
    CarriesIn zero s t = Works setting gives tells s t
    CarriesIn (suc n) s t = (u : Post O K) × (v : Post O K) × CarriesIn n s u × GoesOn u v
        × Works setting gives tells v t

    -- it gives a worker's calls, and no others, looks ahead between them, and passes over those that are refused for
    -- lack of memory
    abbrev pub Carries : Post O K → Post O K → Type 0
    Carries s t = (n : ℕ) × CarriesIn n s t

    -- it does so up to a call that fails for one of a worker's reasons, or until no ticket is left to look ahead
    abbrev pub CarriesUpTo : Post O K → OfficeRefusal → Post O K → Type 0
    CarriesUpTo s r t = (u : Post O K) × Carries s u × (Fails setting gives tells u r t ⊎ LooksAhead u (Err r) t)
        × EndsWorker r

    -- it does so, and ends
    abbrev pub EndsCallbackWorker : Post O K → WorkerEnd → Post O K → Type 0
    EndsCallbackWorker s Ended t = Carries s t
    EndsCallbackWorker s Held t = Carries s t
    EndsCallbackWorker s (Refused r) t = CarriesUpTo s r t
