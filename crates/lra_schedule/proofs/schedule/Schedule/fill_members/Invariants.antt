use Rattle.std.proofs.Common.{◌≡◌}
use Rattle.std.specs.List.{range_with_len}
use Rattle.lra_model.specs.History.{History}
use Rattle.lra_laws.specs.Snapshots.{StandsFor}
use Rattle.lra_schedule.specs.inner.Renewals.{AreRenewed, retry_in}
use Rattle.lra_schedule.proofs.schedule.Schedule.fill_members.Given as goal

abbrev pub invariant-loop-place : goal.invariant-loop-place
invariant-loop-place l = ((K : History) → StandsFor l.tables.snapshot K → AreRenewed (retry_in l.limits K)
    l.fn.self.retries l.self.retries (range_with_len 1 l.place)) × (l.self.limits ≡ l.fn.self.limits)
