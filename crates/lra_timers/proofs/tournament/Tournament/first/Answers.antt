use Rattle.std.proofs.Common.{◌≡◌, ◌<◌, ◌∙◌, length, sym, arith}
use Rattle.std.proofs.lemmas.List.{get_or_default}
use Rattle.lra_timers.specs.Order.{node, last}
use Rattle.lra_timers.proofs.Root.{IsFirstOf-root}
use Rattle.lra_timers.proofs.tournament.Tournament.first.Goals as goal

pub returns-else-self-eq0-clause-first : goal.returns-else-self-eq0-clause-first
returns-else-self-eq0-clause-first c =
    let tree = c.self.invariant in
    let some : 0 < c.self.inside.len = omega arith in
    let inside : 1 < length c.self.inside.nodes.items = omega (arith, tree.size, tree.within) in
    let root : node c.self.inside.nodes.items 1 ≡ c.index.result.now =
    get_or_default c.self.inside.nodes.items 1 last _ inside ∙ sym c.index.ensures in
    rw (← c.self.view_is, ← root) (IsFirstOf-root _ _ _ tree some)
