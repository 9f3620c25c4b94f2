use Rattle.std.proofs.Common.{◌≡◌, take}
use Rattle.lra_rewrite.proofs.texts.copy_bases.Given as goal

-- those before it are copied
abbrev pub invariant-loop-base : goal.invariant-loop-base
invariant-loop-base l = l.copies.items ≡ take l.base-index l.bases
