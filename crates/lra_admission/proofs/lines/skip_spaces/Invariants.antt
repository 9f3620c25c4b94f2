use Rattle.std.proofs.Common.{◌≡◌, drop}
use Rattle.lra_admission.specs.Lines.{skip_spaces}
use Rattle.lra_admission.proofs.lines.skip_spaces.Given as goal

-- the bytes so far are spaces
abbrev pub invariant-loop-place : goal.invariant-loop-place
invariant-loop-place l = skip_spaces (drop l.place l.text) ≡ skip_spaces l.text
