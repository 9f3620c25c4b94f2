use Rattle.lra_runs.proofs.Playing.{stands_first}
use Rattle.lra_runs.proofs.play.new_player.Goals as goal

pub returns-clause-first : goal.returns-clause-first
returns-clause-first c = stands_first c.new.result c.in_ok-coordinator.coordinator c.new.ensures.coordinator
    c.in_ok-coordinator.ensures.made.1 c.new.ensures.held
