use Rattle.std.proofs.Common.{◌≡◌}
use Rattle.lra_operators.proofs.memo.Memo.count_each.Given as goal

-- no order was given so far
abbrev pub invariant-loop-counted : goal.invariant-loop-counted
invariant-loop-counted g l = g.O.Overview.orders l.overview ≡ g.O.Overview.orders l.fn.overview
