use Rattle.std.proofs.Common.{◌≡◌, drop}
use Rattle.lra_admission.specs.Names.{from_colon}
use Rattle.lra_admission.proofs.names.from_colon.Given as goal

-- there is no colon so far
abbrev pub invariant-loop-place : goal.invariant-loop-place
invariant-loop-place l = from_colon (drop l.place l.text) ≡ from_colon l.text
