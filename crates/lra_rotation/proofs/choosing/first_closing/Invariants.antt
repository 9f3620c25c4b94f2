use Rattle.std.proofs.Common.{◌≡◌, drop}
use Rattle.lra_rotation.specs.Deciding as deciding
use Rattle.lra_rotation.specs.declared.action.RotationAction.TheVariants as action
use Rattle.lra_rotation.proofs.choosing.first_closing.Given as goal

-- what is left decides
abbrev pub invariant-loop-journal : goal.invariant-loop-journal
invariant-loop-journal l = deciding.first_that (deciding.wants_close l.observations) action.Close
    (drop l.journal-index l.journals) ≡ deciding.first_that (deciding.wants_close l.observations) action.Close
    l.journals
