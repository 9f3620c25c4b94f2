use Rattle.std.proofs.Common.{◌≡◌, drop}
use Rattle.std.specs.Prelude.{max}
use Rattle.lra_rotation.specs.Disks as disks
use Rattle.lra_rotation.proofs.found_journals.greatest.Given as goal

-- with what is left it is the greatest of all
abbrev pub invariant-loop-number : goal.invariant-loop-number
invariant-loop-number l = max l.most (disks.greatest (drop l.number-index l.numbers)) ≡ disks.greatest l.numbers
