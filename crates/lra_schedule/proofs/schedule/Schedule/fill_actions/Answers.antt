use Rattle.std.proofs.Common.{◌≡◌, ◌∙◌, ◌+◌, arith, subst, sym}
use Rattle.std.specs.List.{range_with_len}
use Rattle.lra_timers.specs.Moments.{Moments}
use Rattle.lra_schedule.specs.inner.Renewals.{AreRenewed, limit_in}
use Rattle.lra_schedule.proofs.Renewed.{renewed_counted}
use Rattle.lra_schedule.proofs.schedule.Schedule.fill_actions.Goals as goal

pub loop-place-preserved : goal.loop-place-preserved
loop-place-preserved c =
    let next : 1 + c.loop-place.place ≡ c.loop-place.place + 1 = omega arith in (
      λ K stands.
          renewed_counted (limit_in K) c.args.self.now.limits c.room.new.self.limits c.put_limit.new.self.limits
          c.loop-place.place (c.loop-place.place + 1) c.limit_of.result next
          (subst (λ (m : Moments). AreRenewed (limit_in K) c.args.self.now.limits m
          (range_with_len 1 c.loop-place.place)) (sym c.room.ensures.limits) (c.loop-place.invariant.0 K stands))
          (c.limit_of.ensures K stands)
          c.put_limit.ensures.limits,
      c.put_limit.ensures.retries ∙ c.room.ensures.retries ∙ c.loop-place.invariant.1,
    )
