use Rattle.std.proofs.Common.{◌≡◌, ◌*◌, ◌∙◌, ◌++◌, length, take, drop, sym, ap, subst, arith, rules}
use Rattle.std.proofs.lemmas.List.{take_at}
use Rattle.lra_timers.specs.inner.Tree.{IsTree}
use Rattle.lra_timers.proofs.Widened.{IsTree-widened}
use Rattle.lra_timers.proofs.tournament.widen.Goals as goal

pub returns-clause-tree : goal.returns-clause-tree
returns-clause-tree c =
    let copied = c.copy_within.new.self in
    let played = c.play.new.nodes in
    let double : c.in_ok-size.size ≡ 2 * c.args.wider = search rules in
    let size : length played ≡ 2 * c.args.wider = omega (
      arith,
      c.play.auto.nodes,
      c.deref_mut.ensures.len,
      c.copy_within.ensures.len,
      c.in_ok-resize.ensures.len,
      copied.ok.0,
    ) in
    let whole : take copied.len (played ++ drop (length played) copied.items)
    ≡ played = take_at played _ copied.len
    (omega (arith, copied.ok.0, c.play.auto.nodes, c.deref_mut.ensures.len)) in
    subst (λ nodes. IsTree nodes c.args.wider c.args.len) (sym whole)
    (IsTree-widened c.args.nodes.now.items c.resize.new.self.items copied.items played c.args.width c.args.len
    c.args.wider c.in_ok-size.size _
    c.requires.tree c.requires.wider c.requires.fits double c.in_ok-resize.ensures.items
    c.copy_within.ensures.by_index.0 c.copy_within.ensures.by_index.2 size c.play.ensures.won
    (c.play.ensures.leaves ∙ ap (drop c.args.wider) c.deref_mut.ensures.value))
