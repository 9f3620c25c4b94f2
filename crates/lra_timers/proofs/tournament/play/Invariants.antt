use Rattle.std.proofs.Common.{◌≡◌, drop}
use Rattle.lra_timers.proofs.Matches.{IsWonFrom}
use Rattle.lra_timers.proofs.tournament.play.Given as goal

abbrev pub invariant-loop-at : goal.invariant-loop-at
invariant-loop-at l = (drop l.width l.nodes ≡ drop l.width l.fn.nodes) × IsWonFrom l.nodes l.width l.at
