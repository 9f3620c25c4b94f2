use Rattle.std.proofs.Common.{◌<◌, ◌^◌, ◌∙◌, length, sym, arith}
use Rattle.lra_tables.proofs.Firsts.{first_marked, none_marked}
use Rattle.lra_tables.proofs.indexed_set.IndexedSet.first.Goals as goal

pub returns-then-is_mark-clause-some : goal.returns-then-is_mark-clause-some
returns-then-is_mark-clause-some c =
    let inside = c.self.inside in
    let few : length inside.flags.items < 2 ^ 63 = omega (
      arith,
      inside.flags.ok.0,
      inside.flags.ok.1,
      inside.flags.small,
    ) in
    rw (← c.self.view_is) (first_marked inside.order inside.flags.items inside.leaves.items few c.self.invariant
    c.in-Some.first c.in-Some.ensures.first (sym c.is_mark.ensures ∙ c.if-is_mark.true))

pub returns-else-is_mark-clause-none : goal.returns-else-is_mark-clause-none
returns-else-is_mark-clause-none c =
    let inside = c.self.inside in
    let few : length inside.flags.items < 2 ^ 63 = omega (
      arith,
      inside.flags.ok.0,
      inside.flags.ok.1,
      inside.flags.small,
    ) in
    rw (← c.self.view_is) (none_marked inside.order inside.flags.items inside.leaves.items few c.self.invariant
    c.in-Some.first c.in-Some.ensures.first (sym c.is_mark.ensures ∙ c.if-is_mark.false))
