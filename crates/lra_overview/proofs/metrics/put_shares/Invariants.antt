use Rattle.std.proofs.Common.{◌≡◌, ◌++◌, take}
use Rattle.std.specs.List.{flat_map}
use Rattle.lra_overview.specs.Measures as measures
use Rattle.lra_overview.proofs.metrics.put_shares.Given as goal

-- the page has the counts of the statuses so far
abbrev pub invariant-loop-share : goal.invariant-loop-share
invariant-loop-share l = l.page.items ≡ l.initial.page.items ++ flat_map measures.share (take l.share-index l.shares)
