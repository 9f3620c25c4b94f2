use Rattle.std.proofs.Common.{◌≡◌, ◌≤◌, ◌+◌, length, option_map}
use Rattle.lra_admission.specs.Lines.{digests_from, digests_in}
use Rattle.lra_admission.specs.inner.Left.{lines_left, size_left}
use Rattle.lra_admission.proofs.keys.digests_in.Given as goal

-- the digests of what is left to read, with those so far, are those of the text; and at most as many lines were read as
-- bytes
abbrev pub invariant-loop-left : goal.invariant-loop-left
invariant-loop-left l = record {
  rest : digests_from l.digests.items l.number (lines_left (option_map (λ text. text.now) l.left)) ≡ digests_in l.text;
  count : l.number + size_left (option_map (λ text. text.now) l.left) ≤ length l.text + 2;
}

-- less is left after each line
abbrev pub decreases-loop-left : goal.decreases-loop-left
decreases-loop-left l = size_left (option_map (λ text. text.now) l.left)
