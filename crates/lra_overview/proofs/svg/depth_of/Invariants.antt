use Rattle.std.proofs.Common.{◌≡◌, max, drop}
use Rattle.lra_overview.specs.Pictures as pictures
use Rattle.lra_overview.proofs.svg.depth_of.Given as goal

-- the depth so far, with the nodes that are left, gives the depth of the deepest node
abbrev pub invariant-loop-node : goal.invariant-loop-node
invariant-loop-node l = max l.deepest (pictures.deepest (drop l.node-index l.nodes)) ≡ pictures.deepest l.nodes
