-- What is known of one counter, carried over to each member of a journal set.
use Rattle.std.specs.Prelude.{◌≡◌, ℕ, List, [], ◌∷◌, map, Some, Result}
use Rattle.lra_commands.specs.declared.command.Told.{Told}
use Rattle.lra_commands.specs.declared.counter.Order.{Order}
use Rattle.lra_commands.specs.declared.counter.CounterFault.{CounterFault}
use Rattle.lra_commands.specs.Counters.{Sight, KeepsHistory}
use Rattle.lra_journal_sets.specs.Counted.{name}
use Rattle.lra_journal_sets.specs.JournalSets.{IsJournalSet, member, newest}
use Rattle.lra_journal_sets.specs.Runs.{Event, share}
use Rattle.lra_journal_sets.specs.Serving.{Turn, names, Run}

-- one counter, at its turns: it answers each by the definitions, at a history that begins with all that it had seen,
-- and keeps that history
abbrev pub KeepsHistories : Sight → List Turn → Sight → Type 0
KeepsHistories s [] t = t ≡ s
KeepsHistories s (turn ∷ turns) t =
    (reply : Result Told CounterFault) × (u : Sight) × (turn.answer ≡ Some reply)
    × KeepsHistory s turn.request.giving.moment turn.request.giving.order reply u × KeepsHistories u turns t

-- each counter that stays in a journal set, at the turns that name it, whatever the others do
abbrev pub EachKeepsHistories : (Sight → ℕ → Order → Result Told CounterFault → Sight → Type 0) → Type 0
EachKeepsHistories gives = (ss ts : List Sight) (xs : List (Event Sight Turn)) → IsJournalSet (map name ss)
    → Run gives ss xs ts
    → (i : ℕ) (s t : Sight) → member name i ss ≡ Some s → member name i ts ≡ Some t
    → KeepsHistories s (share name names i (newest name ss) xs) t × (t.setting ≡ s.setting)
