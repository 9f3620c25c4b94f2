use Rattle.std.proofs.KnownBytes.{Keeps-refl}
use Rattle.lra_courier.proofs.ExchangeLemmas.{conversed}
use Rattle.lra_courier.proofs.callback.Callback.try_exchange.Goals as goal

pub returns-in_default-clause-converses : goal.returns-in_default-clause-converses
returns-in_default-clause-converses g c = Keeps-refl _

pub returns-in-Ok-send-clause-converses : goal.returns-in-Ok-send-clause-converses
returns-in-Ok-send-clause-converses g c =
    conversed _ _ _ _ _ _ c.in-Ok-send.ensures c.in-Ok.ensures.stream c.answer.ensures.answers
