use Rattle.std.proofs.Common.{◌≡◌, false, true, None, IsSome, sym, subst}
use Rattle.std.specs.FinMap as map
use Rattle.lra_timers.proofs.Index.{no_moment, moments_at-set}
use Rattle.lra_timers.proofs.schedule.Schedule.set.Goals as goal

pub add-requires : goal.add-requires
add-requires c = rw (← c.self.view_is) (no_moment c.self.inside.places c.self.inside.deadlines.items c.args.number
    (sym c.in-None.ensures.value))

pub returns-in_err-add-in-None-clause-replaces : goal.returns-in_err-add-in-None-clause-replaces
returns-in_err-add-in-None-clause-replaces c = λ some.
    let none : map.get c.args.self.now.moments c.args.number ≡ None =
    rw (← c.self.view_is) (no_moment c.self.inside.places c.self.inside.deadlines.items c.args.number
    (sym c.in-None.ensures.value)) in
    let contrary : false ≡ true = subst (λ o. IsSome o) none some in
    cc

pub returns-in-Some-clause-ok : goal.returns-in-Some-clause-ok
returns-in-Some-clause-ok c =
    rw (c.set.ensures.items, ← c.self.view_is) (moments_at-set c.self.inside.places c.self.inside.deadlines.items
    c.in-Some.place.now _ c.self.invariant (sym c.in-Some.ensures.value))
