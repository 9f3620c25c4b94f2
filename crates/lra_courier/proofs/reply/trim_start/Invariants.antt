use Rattle.std.proofs.Common.{◌≡◌, drop}
use Rattle.lra_courier.specs.Replies.{skip_blanks}
use Rattle.lra_courier.proofs.reply.trim_start.Given as goal

-- the bytes so far are blank
abbrev pub invariant-loop-start : goal.invariant-loop-start
invariant-loop-start l = skip_blanks (drop l.start l.bytes) ≡ skip_blanks l.bytes
