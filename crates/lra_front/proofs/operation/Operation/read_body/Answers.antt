use Rattle.std.proofs.Common.{rules}
use Rattle.lra_front.proofs.Bodies.{value_ok, value_err}
use Rattle.lra_front.proofs.operation.Operation.read_body.Goals as goal

pub returns-in-Ok-clause-ok : goal.returns-in-Ok-clause-ok
returns-in-Ok-clause-ok c =
    value_ok c.args.self c.args.body.now _ (search rules) (search rules) c.in-Ok.ensures.ok.0 c.in-Ok.ensures.ok.1
    c.in-Ok.ensures.nests

pub returns-in-Err-2-clause-ok : goal.returns-in-Err-2-clause-ok
returns-in-Err-2-clause-ok c = value_err c.args.self c.args.body.now (search rules) (search rules) (search rules)
