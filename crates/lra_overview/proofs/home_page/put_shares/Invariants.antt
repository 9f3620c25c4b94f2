use Rattle.std.proofs.Common.{◌≡◌, ◌++◌, take}
use Rattle.std.specs.List.{flat_map}
use Rattle.lra_overview.specs.Pages as pages
use Rattle.lra_overview.proofs.home_page.put_shares.Given as goal

-- the page has the counts of the statuses so far
abbrev pub invariant-loop-share : goal.invariant-loop-share
invariant-loop-share l = l.page.items ≡ l.initial.page.items ++ flat_map pages.share (take l.share-index l.shares)
