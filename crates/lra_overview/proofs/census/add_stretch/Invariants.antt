use Rattle.std.proofs.Common.{◌≡◌}
use Rattle.lra_overview.proofs.census.add_stretch.Given as goal

-- no order was given so far
abbrev pub invariant-loop-status : goal.invariant-loop-status
invariant-loop-status g l = g.O.Overview.orders l.overview ≡ g.O.Overview.orders l.fn.overview
