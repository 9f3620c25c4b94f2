use Rattle.std.proofs.Common.{◌≡◌, ◌++◌, drop, map}
use Rattle.lra_registry.proofs.publishing.journals_of.Given as goal

-- with what is left it is all
abbrev pub invariant-loop-instance : goal.invariant-loop-instance
invariant-loop-instance g l = map (λ j. j.value.instance) l.journals.items ++ drop l.instance-index l.instances
    ≡ l.instances
