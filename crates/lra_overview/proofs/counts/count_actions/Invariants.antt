use Rattle.std.proofs.Common.{◌≡◌}
use Rattle.lra_overview.proofs.counts.count_actions.Given as goal

-- no order was given so far
abbrev pub invariant-loop-bit : goal.invariant-loop-bit
invariant-loop-bit g l = g.O.Overview.orders l.overview ≡ g.O.Overview.orders l.fn.overview
