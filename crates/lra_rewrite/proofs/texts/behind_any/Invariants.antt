use Rattle.std.proofs.Common.{◌≡◌, drop}
use Rattle.lra_rewrite.specs.Texts.{behind_any}
use Rattle.lra_rewrite.proofs.texts.behind_any.Given as goal

-- what is left begins it as all do
abbrev pub invariant-loop-base : goal.invariant-loop-base
invariant-loop-base l = behind_any (drop l.base-index l.bases) l.text ≡ behind_any l.bases l.text
