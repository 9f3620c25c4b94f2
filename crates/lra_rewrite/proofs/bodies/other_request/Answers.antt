use Rattle.std.proofs.Common.{rules}
use Rattle.lra_rewrite.proofs.Others.{itself, none_older}
use Rattle.lra_rewrite.proofs.bodies.other_request.Goals as goal

pub returns-then-is_empty-clause-ok : goal.returns-then-is_empty-clause-ok
returns-then-is_empty-clause-ok c = itself c.args.request.now _ (none_older c.args.base.now c.args.olders.now _
    c.args.request.now.body (search rules))
