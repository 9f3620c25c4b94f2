use Rattle.std.proofs.Common.{◌≡◌, ◌≤◌, ◌+◌, ℕ, List, Option, false, length}
use Rattle.lra_runs.specs.Script.{player}
use Rattle.lra_runs.specs.inner.Players.{IsPlayed}
use Rattle.lra_runs.proofs.play.play_lines.Given as goal

abbrev pub invariant-loop-rest : goal.invariant-loop-rest
invariant-loop-rest g l = record {
  setting : l.playing.coordinator.setting ≡ player;
  within : l.number + length l.rest ≤ length l.script;
  played : (before : Option (List ℕ)) → IsPlayed l.script before (g.W.Write.contents l.fn.writer) l.fn.playing false 0
      l.script
      → IsPlayed l.script before (g.W.Write.contents l.writer) l.playing l.is_refused l.number l.rest;
}

abbrev pub decreases-loop-rest : goal.decreases-loop-rest
decreases-loop-rest g l = length l.rest
