use Rattle.std.proofs.Common.{◌≤◌, ◌<◌, refl, sym, subst, arith}
use Rattle.lra_timers.specs.Moments.{NoneDue}
use Rattle.lra_timers.proofs.Firsts.{NoneDue-empty, NoneDue-first, IsFirstDue-first, due_then_some}
use Rattle.lra_timers.proofs.schedule.Schedule.first_due.Goals as goal

pub returns-in-Some-clause-none : goal.returns-in-Some-clause-none
returns-in-Some-clause-none c =
    let due : c.in-Some.first.moment ≤ c.args.now = omega arith in (
      λ e. cc,
      λ none. absurd
          (due_then_some c.self.inside.places c.self.inside.deadlines.items c.self.invariant c.in-Some.first
          c.in-Some.ensures.first c.args.now due
          (subst (λ t. NoneDue t.moments c.args.now) (sym c.self.view_is) none)),
    )

pub returns-in-Some-clause-first : goal.returns-in-Some-clause-first
returns-in-Some-clause-first c =
    let due : c.in-Some.first.moment ≤ c.args.now = omega arith in
    rw (← c.self.view_is) (IsFirstDue-first c.self.inside.places c.self.inside.deadlines.items c.self.invariant
    c.in-Some.first c.in-Some.ensures.first c.args.now due)

pub returns-in_default-clause-none : goal.returns-in_default-clause-none
returns-in_default-clause-none c =
    let early : c.args.now < c.in-Some.first.moment = omega arith in (
      λ e. rw (← c.self.view_is) (NoneDue-first c.self.inside.places c.self.inside.deadlines.items c.self.invariant
          c.in-Some.first c.in-Some.ensures.first c.args.now early),
      λ none. refl,
    )

pub returns-in_default-2-clause-none : goal.returns-in_default-2-clause-none
returns-in_default-2-clause-none c = (
  λ e. rw (← c.self.view_is) (NoneDue-empty c.self.inside.places c.self.inside.deadlines.items c.self.invariant
      c.args.now (c.in_default.ensures.none.0 refl)),
  λ none. refl,
)
