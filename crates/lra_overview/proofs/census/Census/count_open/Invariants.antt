use Rattle.std.proofs.Common.{◌≡◌}
use Rattle.lra_overview.proofs.census.Census.count_open.Given as goal

-- no order was given so far
abbrev pub invariant-loop-at : goal.invariant-loop-at
invariant-loop-at g l = g.O.Overview.orders l.overview ≡ g.O.Overview.orders l.fn.overview
