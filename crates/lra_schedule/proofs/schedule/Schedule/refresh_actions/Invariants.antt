use Rattle.std.proofs.Common.{◌≡◌, ◌+◌, ◌≤◌, take}
use Rattle.lra_model.specs.History.{History}
use Rattle.lra_laws.specs.Snapshots.{StandsFor}
use Rattle.lra_schedule.specs.inner.Renewals.{AreRenewed, limit_in}
use Rattle.lra_schedule.proofs.schedule.Schedule.refresh_actions.Given as goal

abbrev pub invariant-loop-action : goal.invariant-loop-action
invariant-loop-action l = ((K : History) → StandsFor l.tables.snapshot K → AreRenewed (limit_in K) l.fn.self.limits
    l.self.limits (take l.action-index l.actions)) × (l.self.retries ≡ l.fn.self.retries)
    × (l.fn.self.room ≤ l.self.room + l.action-index)
