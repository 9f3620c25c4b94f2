use Rattle.std.proofs.Common.{◌≡◌, ◌++◌, take}
use Rattle.std.specs.List.{flat_map}
use Rattle.lra_overview.specs.Pictures as pictures
use Rattle.lra_overview.proofs.svg.put_nodes.Given as goal

-- the page has the nodes so far
abbrev pub invariant-loop-node : goal.invariant-loop-node
invariant-loop-node l = l.page.items ≡ l.initial.page.items ++ flat_map (pictures.node l.names.instance)
    (take l.node-index l.nodes)
