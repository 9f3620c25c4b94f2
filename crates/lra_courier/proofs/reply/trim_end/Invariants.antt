use Rattle.std.proofs.Common.{◌≡◌, ◌≤◌, length, reverse, take}
use Rattle.lra_courier.specs.Replies.{skip_blanks}
use Rattle.lra_courier.proofs.reply.trim_end.Given as goal

-- what is left has the same end without blanks
abbrev pub invariant-loop-end : goal.invariant-loop-end
invariant-loop-end l = (l.end ≤ length l.bytes) × (skip_blanks (reverse (take l.end l.bytes))
    ≡ skip_blanks (reverse l.bytes))

abbrev pub decreases-loop-end : goal.decreases-loop-end
decreases-loop-end l = l.end
