use Rattle.std.proofs.Common.{None, Some, sym}
use Rattle.lra_timers.proofs.Lookups.{Changes-from_updates, Changes-of}
use Rattle.lra_timers.proofs.Index.{within_kept, IsIndex-pop, moments_at-pop, IsIndex-move, moments_at-move}
use Rattle.lra_timers.proofs.Index.{moments_at-absent}
use Rattle.lra_timers.proofs.schedule.Schedule.remove.Goals as goal

pub returns-in_default-clause-moments : goal.returns-in_default-clause-moments
returns-in_default-clause-moments c =
    rw (← c.self.view_is) (moments_at-absent c.self.inside.places c.remove.new.self c.self.inside.deadlines.items
    c.args.number
    (Changes-from_updates c.self.inside.places c.remove.new.self c.args.number None c.remove.ensures.updates))

pub set-requires : goal.set-requires
set-requires c =
    within_kept c.self.inside.deadlines.items c.pop-last.new.self.items c.pop-last.result c.pop-last.ensures.items
    c.self.inside.places c.self.invariant c.args.number c.in-Some.place
    c.if-last-number.true (sym c.in-Some.ensures.value)

pub invariant_of-self-then-last-number : goal.invariant_of-self-then-last-number
invariant_of-self-then-last-number c =
    let places = c.self.inside.places in
    let gone = c.remove.new.self in
    let final = c.pop-last.result in
    rw c.set.ensures.items
    (IsIndex-move c.self.inside.deadlines.items c.pop-last.new.self.items final c.pop-last.ensures.items places
    c.self.invariant gone c.move_to.new.places c.args.number c.in-Some.place
    (sym c.in-Some.ensures.value) c.if-last-number.true (Changes-from_updates places gone c.args.number None
    c.remove.ensures.updates)
    (Changes-from_updates gone c.move_to.new.places final.number (Some c.in-Some.place) c.move_to.ensures.moved))

pub invariant_of-self-else-last-number : goal.invariant_of-self-else-last-number
invariant_of-self-else-last-number c =
    IsIndex-pop c.self.inside.deadlines.items c.pop-last.new.self.items c.pop-last.result c.pop-last.ensures.items
    c.self.inside.places c.self.invariant c.remove.new.self
    (Changes-of c.self.inside.places c.remove.new.self c.args.number c.pop-last.result.number None
    c.if-last-number.false c.remove.ensures.updates)

pub returns-then-last-number-clause-moments : goal.returns-then-last-number-clause-moments
returns-then-last-number-clause-moments c =
    let places = c.self.inside.places in
    let gone = c.remove.new.self in
    let final = c.pop-last.result in
    rw (c.set.ensures.items, ← c.self.view_is)
    (moments_at-move c.self.inside.deadlines.items c.pop-last.new.self.items final c.pop-last.ensures.items places
    c.self.invariant gone c.move_to.new.places c.args.number c.in-Some.place
    (sym c.in-Some.ensures.value) c.if-last-number.true (Changes-from_updates places gone c.args.number None
    c.remove.ensures.updates)
    (Changes-from_updates gone c.move_to.new.places final.number (Some c.in-Some.place) c.move_to.ensures.moved))

pub returns-else-last-number-clause-moments : goal.returns-else-last-number-clause-moments
returns-else-last-number-clause-moments c =
    rw (← c.self.view_is, ← c.if-last-number.false)
    (moments_at-pop c.self.inside.deadlines.items c.pop-last.new.self.items c.pop-last.result c.pop-last.ensures.items
    c.self.inside.places c.self.invariant c.remove.new.self
    (Changes-of c.self.inside.places c.remove.new.self c.args.number c.pop-last.result.number None
    c.if-last-number.false c.remove.ensures.updates))
