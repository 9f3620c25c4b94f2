use Rattle.std.proofs.Common.{ap, ◌∙◌}
use Rattle.lra_timers.specs.Order.{node}
use Rattle.lra_timers.proofs.Lookups.{same_moments, same_moment}
use Rattle.lra_timers.proofs.schedule.Schedule.reserve.Goals as goal

pub returns-clause-moments : goal.returns-clause-moments
returns-clause-moments c =
    same_moments _ _ (λ q. same_moment c.self.inside.places c.reserve.new.self c.self.inside.deadlines.items
    c.reserve-2.new.self.items q (c.reserve.ensures.entries.2 q)
    (λ place at. ap (λ deadlines. node deadlines place) c.reserve-2.ensures.items)) ∙ ap (λ t. t.moments) c.self.view_is
