use Rattle.std.proofs.Common.{◌≡◌, drop}
use Rattle.lra_rules.specs.Networks.{agree}
use Rattle.lra_rules.proofs.network.agree.Given as goal

abbrev pub invariant-loop-place : goal.invariant-loop-place
invariant-loop-place l = agree l.left (drop l.place l.first) (drop l.place l.other) ≡ agree l.bits l.first l.other
