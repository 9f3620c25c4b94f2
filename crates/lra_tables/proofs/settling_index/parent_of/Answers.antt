use Rattle.lra_tables.proofs.Marked.{no_parent}
use Rattle.lra_tables.proofs.settling_index.parent_of.Goals as goal

pub returns-in-None : goal.returns-in-None
returns-in-None c = λ K h. no_parent c.args.rows.now.snapshot K h c.args.action (c.in-None.ensures K h)
