use Rattle.std.proofs.Common.{◌≡◌, drop}
use Rattle.lra_admission.specs.Names.{behind_bracket}
use Rattle.lra_admission.proofs.names.behind_bracket.Given as goal

-- there is no bracket so far
abbrev pub invariant-loop-place : goal.invariant-loop-place
invariant-loop-place l = behind_bracket (drop l.place l.text) ≡ behind_bracket l.text
