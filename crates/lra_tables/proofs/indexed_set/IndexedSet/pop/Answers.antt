use Rattle.std.proofs.Common.{◌≡◌, ◌+◌, ◌-◌, ◌*◌, ◌≤◌, ◌<◌, Bool, List, ◌∷◌, [], length, length-append, sym, ap, ◌∙◌}
use Rattle.std.proofs.Common.{subst, arith}
use Rattle.std.proofs.lemmas.List.{length-take}
use Rattle.lra_timers.specs.declared.deadline.Deadline.{Deadline}
use Rattle.lra_tables.specs.inner.IndexedSet.{Marking}
use Rattle.lra_tables.specs.inner.Leaves.{AreLeaves, IsWritten}
use Rattle.lra_tables.proofs.Firsts.{less_leaves, with_leaf, flag_popped, not_in}
use Rattle.lra_tables.proofs.indexed_set.IndexedSet.pop.Goals as goal

pub invariant_of-self : goal.invariant_of-self
invariant_of-self c =
    let inside = c.self.inside in
    let flags = inside.flags.items in
    let left = c.pop.new.self.items in
    let b = c.block_of-block.result in
    let some : 0 < length flags = omega (arith, c.requires, ap (λ (m : Marking). length m.marked) c.self.view_is) in
    let few : length left + 1 ≡ length flags = omega (
      arith,
      ap length c.pop.ensures.rest,
      length-take (inside.flags.len - 1) flags,
      inside.flags.ok.0,
      some,
    ) in
    let last_one : length left ≡ 8 * b = omega (arith, c.if-block-len.true, c.len-2.ensures, c.pop.new.self.ok.0) in
    let ls = c.pop-then-block-len.new.self.items in
    let fewer : length inside.leaves.items ≡ length ls + 1 = ap length c.pop-then-block-len.ensures.items
    ∙ length-append ls (c.pop-then-block-len.result ∷ []) in
    let here : b ≡ length ls = omega (arith, few, last_one, fewer, c.self.invariant.wide, c.self.invariant.tight) in
    less_leaves inside.order flags left inside.leaves.items ls b c.pop-then-block-len.result c.self.invariant
    (λ k apart. flag_popped flags left c.pop.result k c.pop.ensures.items
    (not_in k b (length left) apart (omega arith) (omega arith)))
    c.pop-then-block-len.ensures.items here (omega arith) (omega arith)

pub invariant_of-self-else-block-len : goal.invariant_of-self-else-block-len
invariant_of-self-else-block-len c =
    let inside = c.self.inside in
    let flags = inside.flags.items in
    let left = c.pop.new.self.items in
    let b = c.block_of-block.result in
    let some : 0 < length flags = omega (arith, c.requires, ap (λ (m : Marking). length m.marked) c.self.view_is) in
    let few : length left + 1 ≡ length flags = omega (
      arith,
      ap length c.pop.ensures.rest,
      length-take (inside.flags.len - 1) flags,
      inside.flags.ok.0,
      some,
    ) in
    let above : 8 * b ≤ length left = omega (
      arith,
      c.block_of-block.ensures.above,
      c.len.ensures,
      c.pop.new.self.ok.0,
    ) in
    let below : length left < 8 * b + 8 = omega (
      arith,
      c.block_of-block.ensures.below,
      c.len.ensures,
      c.pop.new.self.ok.0,
    ) in
    let more : 8 * b < length left = omega (arith, above, c.if-block-len.false, c.len-2.ensures, c.pop.new.self.ok.0) in
    let written = subst (λ (fs : List Bool). IsWritten inside.order fs b c.best_of.result) c.deref.ensures.value
    c.best_of.ensures in
    subst (λ ls. AreLeaves inside.order left ls) (sym c.set.ensures.items)
    (with_leaf inside.order flags left inside.leaves.items b c.best_of.result c.self.invariant
    (λ k apart. flag_popped flags left c.pop.result k c.pop.ensures.items (not_in k b (length left) apart above below))
    written (omega (arith, few, above, c.self.invariant.wide)) (omega (arith, few, c.self.invariant.wide))
    (omega (arith, few, more, below, c.self.invariant.tight)))
