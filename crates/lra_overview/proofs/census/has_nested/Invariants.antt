use Rattle.std.proofs.Common.{◌≡◌}
use Rattle.lra_overview.proofs.census.has_nested.Given as goal

-- no order was given so far
abbrev pub invariant-loop-row : goal.invariant-loop-row
invariant-loop-row g l = g.O.Overview.orders l.overview ≡ g.O.Overview.orders l.fn.overview
