use Rattle.std.proofs.Common.{ℕ, List, ◌++◌, drop}
use Rattle.lra_tables.specs.inner.SettlingIndex.{MarkedBut, SameRoom}
use Rattle.lra_tables.proofs.settling_index.SettlingIndex.mark_actions.Given as goal

-- those that are left are to be looked at yet
abbrev pub invariant-loop-action : goal.invariant-loop-action
invariant-loop-action l =
    ((ps xs : List ℕ) → MarkedBut l.rows.snapshot.state l.fn.self ps (l.actions ++ xs)
    → MarkedBut l.rows.snapshot.state l.self ps (drop l.action-index l.actions ++ xs)) × SameRoom l.fn.self l.self
