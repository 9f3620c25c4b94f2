use Rattle.std.proofs.Common.{◌≡◌}
use Rattle.std.specs.List.{range_with_len}
use Rattle.lra_model.specs.History.{History}
use Rattle.lra_laws.specs.Snapshots.{StandsFor}
use Rattle.lra_schedule.specs.inner.Renewals.{AreRenewed, limit_in}
use Rattle.lra_schedule.proofs.schedule.Schedule.fill_actions.Given as goal

abbrev pub invariant-loop-place : goal.invariant-loop-place
invariant-loop-place l = ((K : History) → StandsFor l.tables.snapshot K → AreRenewed (limit_in K) l.fn.self.limits
    l.self.limits (range_with_len 1 l.place)) × (l.self.retries ≡ l.fn.self.retries)
