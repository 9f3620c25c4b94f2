use Rattle.std.proofs.Common.{take}
use Rattle.lra_timelines.specs.inner.Tallied.{Tallied}
use Rattle.lra_timelines.proofs.tallies.tallies_of.Given as goal

abbrev pub invariant-loop-place : goal.invariant-loop-place
invariant-loop-place l = Tallied (take l.place l.listing.members) l.counts.items
