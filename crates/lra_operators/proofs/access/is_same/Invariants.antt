use Rattle.std.proofs.Common.{◌≡◌, true, length, drop}
use Rattle.std.specs.Prelude.{◌&&◌, bytes_eq}
use Rattle.lra_operators.proofs.access.is_same.Given as goal

-- the result so far, with what is left to compare, is whether the texts are the same; and it is true only if they are
-- as long as each other
abbrev pub invariant-loop-place : goal.invariant-loop-place
invariant-loop-place l = record {
  long : l.same ≡ true → length l.given ≡ length l.wanted;
  rest : (l.same && bytes_eq (drop l.place l.given) (drop l.place l.wanted)) ≡ bytes_eq l.given l.wanted;
}
