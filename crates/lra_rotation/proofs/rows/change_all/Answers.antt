use Rattle.lra_rotation.specs.Runs as runs
use Rattle.lra_rotation.proofs.Changed.{changed_more}
use Rattle.lra_rotation.proofs.rows.change_all.Goals as goal

pub loop-journal-preserved : goal.loop-journal-preserved
loop-journal-preserved c = changed_more (runs.changed_at c.args.change c.args.instance) c.args.journals.now
    c.loop-journal.journals c.loop-journal.journal-index _ c.changed_at.result c.loop-journal-test.true
    c.loop-journal.auto.journals c.loop-journal.invariant c.changed_at.ensures
