use Rattle.std.proofs.Common.{◌≡◌}
use Rattle.lra_operators.proofs.telling.all_answer.Given as goal

-- no order was given so far
abbrev pub invariant-loop-place : goal.invariant-loop-place
invariant-loop-place g l = g.O.Overview.orders l.overview ≡ g.O.Overview.orders l.fn.overview
