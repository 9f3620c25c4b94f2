use Rattle.std.proofs.Common.{◌≡◌, subst}
use Rattle.lra_wire.specs.Request.{Request}
use Rattle.lra_narayana.specs.Spelled.{refused}
use Rattle.lra_rewrite.proofs.dialect.turned_away.Goals as goal

pub returns-clause-answer : goal.returns-clause-answer
returns-clause-answer c =
    subst (λ (r : Request). c.deny.result.answer ≡ refused r c.args.refusal) c.request.ensures c.deny.ensures.answer
