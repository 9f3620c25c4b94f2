use Rattle.std.proofs.Common.{ap, ◌∙◌}
use Rattle.std.specs.FinMap as map
use Rattle.lra_timers.proofs.Lookups.{Changes-to}
use Rattle.lra_timers.proofs.Index.{IsIndex-push, moments_at-push, no_place}
use Rattle.lra_timers.proofs.schedule.Schedule.add.Goals as goal

pub invariant_of-self-2 : goal.invariant_of-self-2
invariant_of-self-2 c =
    let places = c.self.inside.places in
    let deadlines = c.self.inside.deadlines.items in
    let number = c.args.deadline.number in
    let absent = no_place places deadlines number (ap (λ t. map.get t.moments number) c.self.view_is
    ∙ ap (λ m. map.get m number) c.reserve.ensures.moments ∙ c.requires) in
    let changes = Changes-to places c.insert.new.self number _ _ c.len.ensures.items c.in_ok-insert.ensures.updates in
    rw c.push.ensures.items (IsIndex-push places c.insert.new.self deadlines c.args.deadline c.self.invariant absent
    changes)

pub returns-clause-ok : goal.returns-clause-ok
returns-clause-ok c =
    let places = c.self.inside.places in
    let deadlines = c.self.inside.deadlines.items in
    let number = c.args.deadline.number in
    let changes = Changes-to places c.insert.new.self number _ _ c.len.ensures.items c.in_ok-insert.ensures.updates in
    let before = ap (λ t. t.moments) c.self.view_is ∙ c.reserve.ensures.moments in
    rw (c.push.ensures.items, ← before) (moments_at-push places c.insert.new.self deadlines c.args.deadline
    c.self.invariant changes)
