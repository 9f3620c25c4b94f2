use Rattle.std.proofs.Common.{◌≡◌, ◌<◌, ◌∙◌, ◌++◌, length, take, drop, set, ap, arith}
use Rattle.std.proofs.Math.Seq.{take-set-lt}
use Rattle.std.proofs.lemmas.List.{take_at}
use Rattle.lra_timers.proofs.Root.{length_of_items}
use Rattle.lra_timers.proofs.tournament.Tournament.set.Goals as goal

pub returns-clause-items : goal.returns-clause-items
returns-clause-items c =
    let nodes = c.self.inside.nodes in
    let size = c.enter.auto.nodes in
    let whole : take nodes.len (c.enter.new.nodes ++ drop (length c.enter.new.nodes) nodes.items) ≡ c.enter.new.nodes =
    take_at c.enter.new.nodes _ nodes.len (omega (arith, nodes.ok.0, c.deref_mut.ensures.len)) in
    let leaves = c.enter.ensures.leaves ∙ ap (λ xs. set (drop c.self.inside.width xs) c.args.place c.args.deadline)
    c.deref_mut.ensures.value in
    let within : c.args.place < c.self.inside.len = omega (
      arith,
      length_of_items nodes.items c.self.inside.width
          c.self.inside.len c.self.invariant,
      ap (λ t. length t.items) c.self.view_is,
    ) in
    rw (whole, leaves, ← c.self.view_is) (take-set-lt c.self.inside.len (drop c.self.inside.width nodes.items)
    c.args.place c.args.deadline within)
