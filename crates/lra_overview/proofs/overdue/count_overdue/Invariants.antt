use Rattle.std.proofs.Common.{◌≡◌}
use Rattle.lra_overview.proofs.overdue.count_overdue.Given as goal

-- no order was given so far
abbrev pub invariant-loop-start : goal.invariant-loop-start
invariant-loop-start g l = g.O.Overview.orders l.overview ≡ g.O.Overview.orders l.fn.overview
