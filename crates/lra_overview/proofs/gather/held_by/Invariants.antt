use Rattle.std.proofs.Common.{◌≡◌}
use Rattle.lra_overview.proofs.gather.held_by.Given as goal

-- no order was given so far
abbrev pub invariant-loop-part : goal.invariant-loop-part
invariant-loop-part g l = g.O.Overview.orders l.overview ≡ g.O.Overview.orders l.fn.overview
