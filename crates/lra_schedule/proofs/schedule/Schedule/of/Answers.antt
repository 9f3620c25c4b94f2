use Rattle.std.proofs.Common.{ℕ, length, sym, subst, ◌∙◌}
use Rattle.std.specs.List.{range_with_len}
use Rattle.lra_model.specs.History.{actions, members}
use Rattle.lra_timers.specs.Moments.{Moments}
use Rattle.lra_schedule.specs.inner.Renewals.{AreRenewed, retry_in, limit_in}
use Rattle.lra_schedule.proofs.Renewed.{filled}
use Rattle.lra_schedule.proofs.schedule.Schedule.of.Goals as goal

pub returns : goal.returns
returns c = λ K stands.
    let old = c.new-schedule.result in
    let now = c.fill_actions.new.self in
    let retries : AreRenewed (retry_in c.args.limits.now K) old.retries now.retries
    (range_with_len 1 (length (members K))) =
    subst (λ (n : ℕ). AreRenewed (retry_in c.args.limits.now K) old.retries now.retries (range_with_len 1 n))
    (c.count_members.ensures K stands)
    (subst (λ (m : Moments). AreRenewed (retry_in c.args.limits.now K) old.retries m
    (range_with_len 1 c.count_members.result)) (sym c.fill_actions.ensures.retries)
    (c.in_ok-fill_members.ensures.retries K stands)) in
    let limits : AreRenewed (limit_in K) old.limits now.limits (range_with_len 1 (length (actions K))) =
    subst (λ (n : ℕ). AreRenewed (limit_in K) old.limits now.limits (range_with_len 1 n))
    (c.count_actions.ensures K stands)
    (subst (λ (m : Moments). AreRenewed (limit_in K) m now.limits (range_with_len 1 c.count_actions.result))
    c.fill_members.ensures.limits (c.in_ok-fill_actions.ensures.limits K stands)) in
    filled c.args.limits.now old now c.args.tables.now.snapshot K (c.new-schedule.ensures c.args.limits.now) stands
    retries
    limits
