use Rattle.lra_courier.proofs.ExchangeLemmas.{answered}
use Rattle.lra_courier.proofs.callback.Callback.answer.Goals as goal

pub returns-in-Ok-clause-answers : goal.returns-in-Ok-clause-answers
returns-in-Ok-clause-answers g c = answered _ _ _ _ c.in-Ok.ensures.answer
