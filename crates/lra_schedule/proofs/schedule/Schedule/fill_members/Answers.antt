use Rattle.std.proofs.Common.{◌≡◌, ◌∙◌, ◌+◌, arith, subst, sym}
use Rattle.std.specs.List.{range_with_len}
use Rattle.lra_timers.specs.Moments.{Moments}
use Rattle.lra_schedule.specs.inner.Renewals.{AreRenewed, retry_in}
use Rattle.lra_schedule.proofs.Renewed.{renewed_counted}
use Rattle.lra_schedule.proofs.schedule.Schedule.fill_members.Goals as goal

pub loop-place-preserved : goal.loop-place-preserved
loop-place-preserved c =
    let next : 1 + c.loop-place.place ≡ c.loop-place.place + 1 = omega arith in (
      λ K stands.
          renewed_counted (retry_in c.args.limits.now K) c.args.self.now.retries c.room.new.self.retries
          c.put_retry.new.self.retries c.loop-place.place (c.loop-place.place + 1) c.retry_of.result next
          (subst (λ (m : Moments). AreRenewed (retry_in c.args.limits.now K) c.args.self.now.retries m
          (range_with_len 1 c.loop-place.place)) (sym c.room.ensures.retries) (c.loop-place.invariant.0 K stands))
          (c.retry_of.ensures K stands)
          c.put_retry.ensures.retries,
      c.put_retry.ensures.limits ∙ c.room.ensures.limits ∙ c.loop-place.invariant.1,
    )
