use Rattle.std.proofs.Common.{ap, sym}
use Rattle.std.specs.Prelude.{is_some}
use Rattle.lra_tables.proofs.Listed.{unfound}
use Rattle.lra_tables.proofs.changes.is_nested.Goals as goal

pub returns-in-None : goal.returns-in-None
returns-in-None c = λ history stands. sym
    (ap is_some (unfound history c.args.action (c.in-None.ensures history stands)))
