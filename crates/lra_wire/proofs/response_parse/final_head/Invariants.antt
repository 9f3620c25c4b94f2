use Rattle.std.proofs.Common.{◌-◌}
use Rattle.lra_wire.specs.inner.Parts.{Heads}
use Rattle.lra_wire.proofs.response_parse.final_head.Given as goal

-- the heads so far are interim ones
abbrev pub invariant-loop-head : goal.invariant-loop-head
invariant-loop-head l = Heads l.bytes l.passed.end l.passed.count

-- how many interim heads may come still
abbrev pub decreases-loop-head : goal.decreases-loop-head
decreases-loop-head l = 8 - l.passed.count
