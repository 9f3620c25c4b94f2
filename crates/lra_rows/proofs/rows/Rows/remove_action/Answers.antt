use Rattle.std.proofs.Common.{refl}
use Rattle.lra_rows.specs.Steps.{without_last}
use Rattle.lra_rows.specs.declared.nesting.Listed.TheVariants as listed
use Rattle.lra_rows.specs.inner.Nested.{Nested}
use Rattle.lra_rows.proofs.Rooms.{map-without_last, nestings-without, capacities-without}
use Rattle.lra_rows.proofs.rows.Rows.remove_action.Goals as goal

pub returns-in-Some : goal.returns-in-Some
returns-in-Some c =
    rw (
      c.remove_at.ensures.items,
      c.remove_at.ensures.capacity,
      c.remove_last-2.ensures.items,
      c.remove_last-2.ensures.capacity,
      c.remove_last.ensures.items,
      c.remove_last.ensures.capacity,
      c.in-Some.is,
      nestings-without listed.Children c.in-Some.parent (without_last c.self.inside.nestings.items),
      capacities-without listed.Children c.in-Some.parent (without_last c.self.inside.nestings.items),
      map-without_last (λ (n : Nested). n.nesting) c.self.inside.nestings.items,
      map-without_last (λ (n : Nested). n.capacity) c.self.inside.nestings.items,
      ← c.self.view_is,
    ) refl

pub returns-in_default : goal.returns-in_default
returns-in_default c =
    rw (
      c.remove_last-2.ensures.items,
      c.remove_last-2.ensures.capacity,
      c.remove_last.ensures.items,
      c.remove_last.ensures.capacity,
      c.in_default.is,
      map-without_last (λ (n : Nested). n.nesting) c.self.inside.nestings.items,
      map-without_last (λ (n : Nested). n.capacity) c.self.inside.nestings.items,
      ← c.self.view_is,
    ) refl
