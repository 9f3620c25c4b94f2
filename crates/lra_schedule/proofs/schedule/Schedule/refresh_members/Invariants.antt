use Rattle.std.proofs.Common.{◌≡◌, ◌+◌, ◌≤◌, take}
use Rattle.lra_model.specs.History.{History}
use Rattle.lra_laws.specs.Snapshots.{StandsFor}
use Rattle.lra_schedule.specs.inner.Renewals.{AreRenewed, retry_in}
use Rattle.lra_schedule.proofs.schedule.Schedule.refresh_members.Given as goal

abbrev pub invariant-loop-member : goal.invariant-loop-member
invariant-loop-member l = ((K : History) → StandsFor l.tables.snapshot K → AreRenewed (retry_in l.limits K)
    l.fn.self.retries l.self.retries (take l.member-index l.members)) × (l.self.limits ≡ l.fn.self.limits)
    × (l.fn.self.room ≤ l.self.room + l.member-index)
