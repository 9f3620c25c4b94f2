use Rattle.std.proofs.Common.{◌≡◌, drop}
use Rattle.std.specs.Prelude.{◌&&◌, bytes_eq}
use Rattle.lra_rewrite.proofs.paths.is_same.Given as goal

-- the comparison so far, with that of the bytes left, comes to the same
abbrev pub invariant-loop-place : goal.invariant-loop-place
invariant-loop-place l = (l.same && bytes_eq (drop l.place l.one) (drop l.place l.other)) ≡ bytes_eq l.one l.other
