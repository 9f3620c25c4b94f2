use Rattle.std.proofs.Common.{rules}
use Rattle.lra_front.proofs.Bodies.{ending_is}
use Rattle.lra_front.proofs.body.ending_named.Goals as goal

pub returns : goal.returns
returns c = ending_is c.args.text.now c.from_name.result (search rules) (search rules)
