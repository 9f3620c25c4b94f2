-- That a scribe has stopped, as a caller learns it whose call can't be written.
use Rattle.std.specs.Prelude.{◌≡◌, ◌⊎◌, true, Bool, ℕ, Result, Err}
use Rattle.lra_model.specs.History.{History}
use Rattle.lra_ticket.specs.declared.view.View.{View}
use Rattle.lra_commands.specs.declared.command.Told.{Told}
use Rattle.lra_commands.specs.declared.counter.Order.{Order}
use Rattle.lra_commands.specs.declared.counter.CounterFault.{CounterFault}
use Rattle.lra_commands.specs.declared.counter.CounterFault.TheVariants.{Refused}
use Rattle.lra_commands.specs.declared.refusal.Refusal.{Refusal}
use Rattle.lra_commands.specs.declared.refusal.Refusal.TheVariants.{Stopped, Memory}
use Rattle.lra_commands.specs.Calls.{Call}
use Rattle.lra_commands.specs.Counters.{Setting, Sight, KeepsHistory, terms_of}
use Rattle.lra_core.specs.declared.block.Committed.{Committed}
use Rattle.lra_office.specs.Serves.{IsServed, IsStopped}

-- a value that was handed out at a turn and given back: lawful, of the origin that is known, and with just the history
-- that is known since; its scribe has stopped
pub record HasStopped {X O : Type 0} (origin : X → O) (history : X → History) (lawful : X → Type 0)
    (has_stopped : X → Bool) (v : View O) : Type 0 where
  pub value : X
  pub lawful_now : lawful value
  pub same_origin : origin value ≡ v.origin
  pub same_history : history value ≡ v.seen
  pub stopped : has_stopped value ≡ true

-- what each window keeps: what every counter does; and where its reply is that the scribe has stopped, the scribe has,
-- at the history that is known then
pub record KeepsInTurn {X O : Type 0} (setting : O → Setting) (origin : X → O) (history : X → History)
    (lawful : X → Type 0) (has_stopped : X → Bool)
    (before : Sight) (moment : ℕ) (o : Order) (reply : Result Told CounterFault) (after : Sight) : Type 0 where
  pub keeps : KeepsHistory before moment o reply after
  pub stops : reply ≡ Err (Refused Stopped) → (v : View O) × (setting v.origin ≡ after.setting) × (v.seen ≡ after.seen)
      × HasStopped origin history lawful has_stopped v

-- where nothing is appended, what the definitions would answer and write is refused: the scribe has stopped, or no
-- memory was left
abbrev pub CallsAreStopped : Type 0
CallsAreStopped =
    (g : Setting) (J : History) (c : Call) (r : Result Committed Refusal) → IsServed g J c r J
    → IsStopped (terms_of g) J c → (r ≡ Err Stopped) ⊎ (r ≡ Err Memory)
