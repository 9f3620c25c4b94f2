use Rattle.std.proofs.Common.{◌≡◌, ◌≤◌, length, reverse, take}
use Rattle.httparse.specs.Grammar.{skip_ows}
use Rattle.lra_wire.proofs.fields.trim_end.Given as goal

-- what is left has the same end without white space
abbrev pub invariant-loop-end : goal.invariant-loop-end
invariant-loop-end l = (l.end ≤ length l.bytes) × (skip_ows (reverse (take l.end l.bytes)) ≡ skip_ows (reverse l.bytes))

abbrev pub decreases-loop-end : goal.decreases-loop-end
decreases-loop-end l = l.end
