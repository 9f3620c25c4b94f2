use Rattle.std.proofs.Common.{◌∙◌, ◌<◌, length, arith}
use Rattle.lra_schedule.specs.inner.Renewals.{limit_in}
use Rattle.lra_schedule.proofs.Renewed.{renewed_next}
use Rattle.lra_schedule.proofs.schedule.Schedule.refresh_actions.Goals as goal

pub loop-action-preserved : goal.loop-action-preserved
loop-action-preserved c =
    let within : c.loop-action.action-index < length c.args.actions.now = omega arith in (
      λ K stands.
          renewed_next (limit_in K) c.args.self.now.limits c.loop-action.self.limits c.put_limit.new.self.limits
          c.args.actions.now c.loop-action.action-index c.limit_of.result within
          (c.loop-action.invariant.0 K stands) (c.limit_of.ensures K stands)
          c.put_limit.ensures.limits,
      c.put_limit.ensures.retries ∙ c.loop-action.invariant.1,
      omega arith,
    )
