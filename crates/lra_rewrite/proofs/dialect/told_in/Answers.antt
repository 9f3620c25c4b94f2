use Rattle.std.proofs.Common.{◌≡◌, subst}
use Rattle.lra_wire.specs.Request.{Request}
use Rattle.lra_narayana.specs.Spelled.{spelled}
use Rattle.lra_rewrite.proofs.dialect.told_in.Goals as goal

pub returns-clause-answer : goal.returns-clause-answer
returns-clause-answer c =
    subst (λ (r : Request). c.tell.result.answer ≡ spelled r c.args.answered.answer) c.request.ensures
    c.tell.ensures.answer
