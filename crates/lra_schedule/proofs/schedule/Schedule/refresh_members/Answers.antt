use Rattle.std.proofs.Common.{◌∙◌, ◌<◌, length, arith}
use Rattle.lra_schedule.specs.inner.Renewals.{retry_in}
use Rattle.lra_schedule.proofs.Renewed.{renewed_next}
use Rattle.lra_schedule.proofs.schedule.Schedule.refresh_members.Goals as goal

pub loop-member-preserved : goal.loop-member-preserved
loop-member-preserved c =
    let within : c.loop-member.member-index < length c.args.members.now = omega arith in (
      λ K stands.
          renewed_next (retry_in c.args.limits.now K) c.args.self.now.retries c.loop-member.self.retries
          c.put_retry.new.self.retries c.args.members.now c.loop-member.member-index c.retry_of.result within
          (c.loop-member.invariant.0 K stands) (c.retry_of.ensures K stands)
          c.put_retry.ensures.retries,
      c.put_retry.ensures.limits ∙ c.loop-member.invariant.1,
      omega arith,
    )
