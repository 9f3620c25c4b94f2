use Rattle.std.proofs.Common.{◌≡◌}
use Rattle.lra_overview.proofs.untold.Look.have_ended.Given as goal

-- no order was given so far
abbrev pub invariant-loop-level : goal.invariant-loop-level
invariant-loop-level g l = g.O.Overview.orders l.overview ≡ g.O.Overview.orders l.fn.overview
