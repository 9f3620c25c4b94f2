use Rattle.std.proofs.Common.{subst, sym}
use Rattle.lra_timers.specs.Moments.{Moments}
use Rattle.lra_schedule.specs.inner.Renewals.{AreRenewed, retry_in, limit_in}
use Rattle.lra_schedule.proofs.Renewed.{refreshed}
use Rattle.lra_schedule.proofs.schedule.Schedule.refresh.Goals as goal

pub returns-clause-schedule : goal.returns-clause-schedule
returns-clause-schedule c = λ J K is stands wants limits.
    refreshed c.args.limits.now c.args.self.now c.refresh_actions.new.self c.args.tables.now.snapshot J K
    c.args.members.now c.args.actions.now is stands wants limits
    (subst (λ (m : Moments). AreRenewed (retry_in c.args.limits.now K) c.args.self.now.retries m c.args.members.now)
    (sym c.refresh_actions.ensures.retries) (c.refresh_members.ensures.retries K stands))
    (subst (λ (m : Moments). AreRenewed (limit_in K) m c.refresh_actions.new.self.limits c.args.actions.now)
    c.refresh_members.ensures.limits (c.refresh_actions.ensures.limits K stands))
