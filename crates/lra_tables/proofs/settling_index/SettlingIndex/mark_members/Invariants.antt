use Rattle.std.proofs.Common.{ℕ, List, ◌++◌, drop}
use Rattle.lra_tables.specs.inner.SettlingIndex.{MarkedBut, SameRoom}
use Rattle.lra_tables.proofs.settling_index.SettlingIndex.mark_members.Given as goal

-- those that are left are to be looked at yet
abbrev pub invariant-loop-member : goal.invariant-loop-member
invariant-loop-member l =
    ((ps xs : List ℕ) → MarkedBut l.rows.snapshot.state l.fn.self (l.members ++ ps) xs
    → MarkedBut l.rows.snapshot.state l.self (drop l.member-index l.members ++ ps) xs) × SameRoom l.fn.self l.self
