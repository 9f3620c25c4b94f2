use Rattle.std.proofs.Common.{◌≡◌, drop}
use Rattle.lra_admission.specs.Lines.{skip_name}
use Rattle.lra_admission.proofs.lines.skip_name.Given as goal

-- the bytes so far are of the name
abbrev pub invariant-loop-place : goal.invariant-loop-place
invariant-loop-place l = skip_name (drop l.place l.text) ≡ skip_name l.text
