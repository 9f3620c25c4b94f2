use Rattle.std.proofs.Common.{subst, Option, List, ℕ}
use Rattle.lra_courier.specs.Exchanges.{Answers}
use Rattle.lra_courier.proofs.callback.Callback.answer_of.Goals as goal

pub returns-clause-answers : goal.returns-clause-answers
returns-clause-answers g c = subst (λ (known : Option (List ℕ)). Answers known c.args.self.now c.answer.result)
    c.in-Ok.ensures.stream c.answer.ensures.answers
