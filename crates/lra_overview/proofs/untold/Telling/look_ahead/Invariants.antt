use Rattle.std.proofs.Common.{◌≡◌}
use Rattle.lra_overview.proofs.untold.Telling.look_ahead.Given as goal

-- no order was given so far
abbrev pub invariant-loop-action : goal.invariant-loop-action
invariant-loop-action g l = g.O.Overview.orders l.overview ≡ g.O.Overview.orders l.fn.overview
