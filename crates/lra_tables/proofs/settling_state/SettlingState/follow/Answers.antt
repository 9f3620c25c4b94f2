use Rattle.lra_tables.proofs.Trails.{trail_more}
use Rattle.lra_tables.proofs.settling_state.SettlingState.follow.Goals as goal

pub returns-clause-undo_log : goal.returns-clause-undo_log
returns-clause-undo_log c = λ b h.
    rw (c.push.ensures.entries, c.push.ensures.steps)
    (trail_more b c.args.undo_log.now.entries.items c.args.undo_log.now.steps.items c.args.self.now
    c.carry-step.new.self
    c.args.entry c.carry-step.result h c.requires.follows c.carry-step.ensures.carried c.carry-step.ensures.back
    c.carry-step.ensures.uris)
