use Rattle.std.proofs.Common.{◌≡◌, drop}
use Rattle.lra_rotation.specs.Deciding as deciding
use Rattle.lra_rotation.proofs.choosing.are_drained.Given as goal

-- what is left decides
abbrev pub invariant-loop-journal : goal.invariant-loop-journal
invariant-loop-journal l = deciding.are_drained (drop l.journal-index l.journals) l.observations l.remember
    ≡ deciding.are_drained l.journals l.observations l.remember
