use Rattle.lra_overview.proofs.Chains.{three}
use Rattle.lra_overview.specs.Pictures.{picture}
use Rattle.lra_overview.proofs.svg.put_tree.Goals as goal

pub returns : goal.returns
unfolding picture
returns c =
    rw (← c.depth_of.ensures, ← c.saturating_mul-height.ensures)
    (three _ _ _ _ _ _ _ _ c.in_ok-put_opening.ensures c.in_ok-put_nodes.ensures c.put_all.ensures)
