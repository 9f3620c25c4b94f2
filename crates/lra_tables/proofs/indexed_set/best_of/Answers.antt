use Rattle.lra_tables.proofs.Firsts.{begun}
use Rattle.lra_tables.proofs.indexed_set.best_of.Goals as goal

pub loop-place-init : goal.loop-place-init
loop-place-init c = begun c.args.order c.args.flags.now _
