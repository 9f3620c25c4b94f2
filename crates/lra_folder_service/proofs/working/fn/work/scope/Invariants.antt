use Rattle.std.specs.Prelude.{◌≡◌}
use Rattle.lra_folder_service.proofs.working.fn.work.scope.Given as goal

-- the loops that start threads write nothing
abbrev pub invariant-loop-role : goal.invariant-loop-role
invariant-loop-role g l = l.writer ≡ l.initial.writer

abbrev pub invariant-loop-journal : goal.invariant-loop-journal
invariant-loop-journal g l = l.writer ≡ l.initial.writer

-- nor does the loop of the rotation, which goes on as long as it has a next iteration
abbrev pub invariant-loop : goal.invariant-loop
invariant-loop g l =
    (goal.iterator-loop g).can_next l.iterator' × (goal.iterator-loop g).is_finite l.iterator'
