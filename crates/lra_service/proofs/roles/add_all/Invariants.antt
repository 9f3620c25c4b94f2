use Rattle.std.proofs.Common.{All}
use Rattle.lra_service.specs.inner.Opened.{IsAt}
use Rattle.lra_service.proofs.roles.add_all.Given as goal

abbrev pub invariant-loop-place : goal.invariant-loop-place
invariant-loop-place g l = record {
  next : IsAt g.V.LockedService.setting g.V.LockedService.covers l.office l.next;
  hired : All (λ job. IsAt g.V.LockedService.setting g.V.LockedService.covers l.office job.1) l.jobs.items;
}
