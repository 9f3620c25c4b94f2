use Rattle.std.proofs.Common.{◌≡◌, None, map, take}
use Rattle.lra_journal_sets.specs.Counted.{name}
use Rattle.lra_journal_sets.specs.JournalSets.{member}
use Rattle.lra_journal_sets.proofs.journal_set.place_of.Given as goal

-- none of those before it has that instance
abbrev pub invariant-loop-place : goal.invariant-loop-place
invariant-loop-place g l = member name l.instance (take l.place (map g.C.Counter.sight l.members)) ≡ None
