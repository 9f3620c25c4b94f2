use Rattle.std.proofs.Common.{◌≡◌, ◌*◌, ◌/◌, ◌≤◌, ◌<◌, drop, slice_set}
use Rattle.lra_timers.proofs.Matches.{IsWonBut}
use Rattle.lra_timers.proofs.tournament.enter.Given as goal

-- the match above `at` alone may be open
abbrev pub invariant-loop-at : goal.invariant-loop-at
invariant-loop-at l =
    (1 ≤ l.at) × (l.at < 2 * l.width) × (drop l.width l.nodes ≡ slice_set (drop l.width l.fn.nodes) l.place
    l.fn.deadline) × IsWonBut l.nodes l.width (l.at / 2)

abbrev pub decreases-loop-at : goal.decreases-loop-at
decreases-loop-at l = l.at
