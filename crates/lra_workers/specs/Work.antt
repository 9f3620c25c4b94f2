-- The calls of a worker at an office.
use Rattle.std.specs.Prelude.{◌≡◌, ◌⊎◌, ℕ, zero, suc, Option, ⊤}
use Rattle.lra_model.specs.declared.asks.AskKind.{AskKind}
use Rattle.lra_model.specs.declared.asks.Outcome.{Outcome}
use Rattle.lra_model.specs.History.{History}
use Rattle.lra_ticket.specs.declared.view.View.{View}
use Rattle.lra_commands.specs.declared.command.Command.TheVariants.{Tick, NextAsk, Record}
use Rattle.lra_commands.specs.declared.command.Told.{Told}
use Rattle.lra_commands.specs.Errands.{Asking}
use Rattle.lra_commands.specs.Calls.{Call, Command}
use Rattle.lra_commands.specs.Counters.{Setting}
use Rattle.lra_commands.specs.Given.{IsOfAsk}
use Rattle.lra_commands.specs.declared.refusal.Refusal.TheVariants.{NotAsked, Full, Memory, Stopped}
use Rattle.lra_commands.specs.declared.refusal.Resource.TheVariants.{Entries}
use Rattle.lra_office.specs.declared.fault.OfficeRefusal.{OfficeRefusal}
use Rattle.lra_office.specs.declared.fault.OfficeRefusal.TheVariants as office
use Rattle.lra_office.specs.Orders.{IsGrown, IsNotGiven}
use Rattle.lra_workers.specs.declared.worker.WorkerEnd.{WorkerEnd}
use Rattle.lra_workers.specs.declared.worker.WorkerEnd.TheVariants.{Ended, Held, Refused}

-- the state of a worker: what its clerk has seen, and the clock
pub record Post (O K : Type 0) : Type 0 where
  pub view : View O
  pub clock : K

-- a worker is in this state
abbrev pub post : {O K : Type 0} → View O → K → Post O K
post view clock = record { view = view; clock = clock }

-- the commands of a worker that has seen a history: that limits fire, that something is asked, or that a courier's
-- possible answer to an errand is recorded, for an errand of an ask in that history
abbrev pub IsWorkersCommand : (ℕ → AskKind → Outcome → Type 0) → History → Command → Type 0
IsWorkersCommand gives J Tick = Unit {0}
IsWorkersCommand gives J NextAsk = Unit {0}
IsWorkersCommand gives J (Record errand outcome) = IsOfAsk J errand.now × gives errand.now.ask errand.now.kind outcome
IsWorkersCommand gives J _ = ⊥

-- a call that a worker gives under its number
pub record IsWorkersCall {O : Type 0} (gives : ℕ → AskKind → Outcome → Type 0) (v : View O) (c : Call) : Type 0 where
  pub by : c.by ≡ v.number
  pub command : IsWorkersCommand gives v.seen c.command

-- what ends a worker: no ticket is left, memory is refused, the scribe has stopped, or the journal has no room for more
-- entries
abbrev pub EndsWorker : OfficeRefusal → Type 0
EndsWorker office.Worn = ⊤
EndsWorker (office.Refused Memory) = ⊤
EndsWorker (office.Refused Stopped) = ⊤
EndsWorker (office.Refused (Full Entries)) = ⊤
EndsWorker (office.Refused _) = ⊥

-- what holds besides if a worker that has seen a history ends: its gate let no further turn be made; or the gate held
-- the errand of an ask in that history back; or the scribe has stopped, if the refusal says so
abbrev pub TellsWhy : Type 0 → (ℕ → Type 0) → Type 0 → History → WorkerEnd → Type 0
TellsWhy is_shut holds has_stopped J Ended = is_shut
TellsWhy is_shut holds has_stopped J Held = (e : Asking) × IsOfAsk J e × holds e.ask
TellsWhy is_shut holds has_stopped J (Refused r) = r ≡ office.Refused Stopped → has_stopped

module _ {O K : Type 0} (setting : O → Setting) (gives : ℕ → AskKind → Outcome → Type 0) (tells : K → ℕ → K → Type 0)
  where
    -- a worker gives a call, at the moment that its clock gives, and the call is refused or no ticket is left
    pub record Fails (s : Post O K) (r : OfficeRefusal) (t : Post O K) : Type 0 where
      pub call : Call
      pub own : IsWorkersCall gives s.view call
      pub clocked : tells s.clock call.moment t.clock
      pub given : IsNotGiven (setting s.view.origin) s.view call r t.view

    -- or the call is done
    pub record Does (s t : Post O K) : Type 0 where
      pub call : Call
      pub own : IsWorkersCall gives s.view call
      pub clocked : tells s.clock call.moment t.clock
      pub told : Told
      pub errand : Option Asking
      pub given : IsGrown (setting s.view.origin) s.view call told errand t.view

    -- so many calls are given, one after another: each is done, or records what came of an ask that isn't outstanding
    -- any more
    unfoldable pub WorksIn : ℕ → Post O K → Post O K → Type 0
    WorksIn zero s t = s ≡ t
    WorksIn (suc n) s t = (u : Post O K) × WorksIn n s u × (Does u t ⊎ Fails u (office.Refused NotAsked) t)

    -- a worker gives such calls, and no others
    abbrev pub Works : Post O K → Post O K → Type 0
    Works s t = (n : ℕ) × WorksIn n s t

    -- it gives such calls, up to one that fails for one of those reasons
    abbrev pub WorksUpTo : Post O K → OfficeRefusal → Post O K → Type 0
    WorksUpTo s r t = (u : Post O K) × Works s u × Fails u r t × EndsWorker r

    -- it gives such calls, and ends
    abbrev pub EndsWork : Post O K → WorkerEnd → Post O K → Type 0
    EndsWork s Ended t = Works s t
    EndsWork s Held t = Works s t
    EndsWork s (Refused r) t = WorksUpTo s r t
