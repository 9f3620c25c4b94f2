use Rattle.std.proofs.Common.{refl}
use Rattle.lra_laws.specs.Rows.{change_row}
use Rattle.lra_rows.specs.declared.nesting.Listed.TheVariants as listed
use Rattle.lra_rows.specs.inner.Nested.{without_number}
use Rattle.lra_rows.proofs.Rooms.{nestings-without, capacities-without}
use Rattle.lra_rows.proofs.rows.Rows.remove_member.Goals as goal

pub returns-clause-rows : goal.returns-clause-rows
returns-clause-rows c =
    rw (
      c.remove_last-2.ensures.items,
      c.remove_last-2.ensures.capacity,
      c.remove_last-2.ensures.ready,
      c.remove_at-2.ensures.items,
      c.remove_at-2.ensures.capacity,
      c.remove_at.ensures.items,
      c.remove_at.ensures.capacity,
      c.remove_last.ensures.items,
      c.remove_last.ensures.capacity,
      nestings-without listed.Members c.args.action (change_row (without_number listed.Under) c.args.top
          c.self.inside.nestings.items),
      capacities-without listed.Members c.args.action (change_row (without_number listed.Under) c.args.top
          c.self.inside.nestings.items),
      nestings-without listed.Under c.args.top c.self.inside.nestings.items,
      capacities-without listed.Under c.args.top c.self.inside.nestings.items,
      ← c.self.view_is,
    ) refl
