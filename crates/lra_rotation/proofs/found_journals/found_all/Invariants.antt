use Rattle.std.proofs.Common.{◌≡◌, ◌++◌, drop}
use Rattle.lra_rotation.specs.Disks as disks
use Rattle.lra_rotation.proofs.found_journals.found_all.Given as goal

-- with what is left it is all
abbrev pub invariant-loop-instance : goal.invariant-loop-instance
invariant-loop-instance l = l.journals.items ++ disks.found_all l.first l.observations
    (drop l.instance-index l.instances) ≡ disks.found_all l.first l.observations l.instances
