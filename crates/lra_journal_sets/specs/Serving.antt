-- What one request does: the counter that it is for, the order that this counter is given, and the reply.
use Rattle.std.specs.Prelude.{◌≡◌, ℕ, List, Some, None, Option, unwrap_or, Result}
use Rattle.lra_commands.specs.declared.command.Told.{Told}
use Rattle.lra_commands.specs.declared.counter.Order.{Order}
use Rattle.lra_commands.specs.declared.counter.CounterFault.{CounterFault}
use Rattle.lra_commands.specs.Counters.{Sight}
use Rattle.lra_journal_sets.specs.declared.front.Request.{Request}
use Rattle.lra_journal_sets.specs.Counted.{name}
use Rattle.lra_journal_sets.specs.JournalSets.{newest, MovesAt}
use Rattle.lra_journal_sets.specs.Runs as runs

-- a request, and the reply, if there is a counter that the request names
pub record Turn : Type 0 where
  pub request : Request
  pub answer : Option (Result Told CounterFault)

-- the instance that a turn names, or the newest where it names none
abbrev pub names : ℕ → Turn → ℕ
names newest turn = unwrap_or turn.request.named newest

-- a turn without a reply, since there is no such counter
abbrev pub Lacks : Turn → Type 0
Lacks turn = turn.answer ≡ None

module _ (gives : Sight → ℕ → Order → Result Told CounterFault → Sight → Type 0) where
  -- what a turn does at its counter: one order, whose reply is the turn's
  abbrev pub Does : Sight → Turn → Sight → Type 0
  Does before turn after = (reply : Result Told CounterFault) × gives before turn.request.giving.moment
      turn.request.giving.order reply after × (turn.answer ≡ Some reply)

  -- what a turn does in a journal set
  abbrev pub Serves : List Sight → Turn → List Sight → Type 0
  Serves before turn after = MovesAt name (names (newest name before) turn) before (λ s t. Does s turn t) (Lacks turn)
      after

  -- the events of a journal set, one after another
  abbrev pub Run : List Sight → List (runs.Event Sight Turn) → List Sight → Type 0
  Run = runs.Run name names Does Lacks
