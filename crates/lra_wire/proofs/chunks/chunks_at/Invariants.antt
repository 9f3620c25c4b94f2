use Rattle.std.proofs.Common.{◌≡◌, ◌-◌}
use Rattle.lra_wire.specs.inner.Chunked.{HasRead}
use Rattle.lra_wire.proofs.chunks.chunks_at.Given as goal

-- the chunks so far begin where they began
abbrev pub invariant-loop-from : goal.invariant-loop-from
invariant-loop-from l = HasRead l.bytes l.chunks × (l.chunks.start ≡ l.initial.chunks.start)

-- how far the response may go still
abbrev pub decreases-loop-from : goal.decreases-loop-from
decreases-loop-from l = 1048576 - l.chunks.end
