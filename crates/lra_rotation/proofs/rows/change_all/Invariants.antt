use Rattle.std.proofs.Common.{◌≡◌, ◌++◌, take, drop}
use Rattle.std.specs.Prelude.{map}
use Rattle.lra_rotation.specs.Runs as runs
use Rattle.lra_rotation.proofs.rows.change_all.Given as goal

-- those before are changed, and the others as they were
abbrev pub invariant-loop-journal : goal.invariant-loop-journal
invariant-loop-journal l = l.journals ≡ map (runs.changed_at l.change l.instance)
    (take l.journal-index l.initial.journals) ++ drop l.journal-index l.initial.journals
