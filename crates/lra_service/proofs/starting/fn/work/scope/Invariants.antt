use Rattle.std.specs.Prelude.{All}
use Rattle.std.specs.Vec.Iter.{into_iter_items}
use Rattle.lra_service.specs.inner.Opened.{IsAt}
use Rattle.lra_service.proofs.starting.fn.work.scope.Given as goal

-- the clerks of the jobs that are still to come are of the office
abbrev pub invariant-loop-job : goal.invariant-loop-job
invariant-loop-job g l =
    (goal.iterator-loop-job g).can_next l.job-iterator
    × (goal.iterator-loop-job g).is_finite l.job-iterator
    × All (λ job. IsAt g.V.LockedService.setting g.V.LockedService.covers l.office job.1)
    (into_iter_items l.job-iterator)
