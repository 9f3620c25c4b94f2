use Rattle.std.proofs.Common.{◌≡◌, drop, false}
use Rattle.lra_wire.specs.Coded.{has_bare_feed}
use Rattle.lra_wire.proofs.coded.has_bare_feed.Given as goal

-- what is left has one if and only if all bytes have
abbrev pub invariant-loop-b : goal.invariant-loop-b
invariant-loop-b l = has_bare_feed l.is_return (drop l.b-index l.bytes) ≡ has_bare_feed false l.bytes
