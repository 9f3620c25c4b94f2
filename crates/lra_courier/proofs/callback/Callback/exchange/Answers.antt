use Rattle.std.proofs.Common.{refl, Ok, Err}
use Rattle.lra_courier.proofs.ExchangeLemmas.{exchanged}
use Rattle.lra_courier.proofs.callback.Callback.exchange.Goals as goal

pub returns-in-Ok-clause-exchanges : goal.returns-in-Ok-clause-exchanges
returns-in-Ok-clause-exchanges g c = exchanged _ _ _ _ (Ok _) c.in-Ok.ensures.converses

pub returns-in-Ok-clause-told : goal.returns-in-Ok-clause-told
returns-in-Ok-clause-told g c = (Ok _, c.in-Ok.ensures.converses, refl)

pub returns-in-Err-clause-exchanges : goal.returns-in-Err-clause-exchanges
returns-in-Err-clause-exchanges g c = exchanged _ _ _ _ (Err _) c.in-Err.ensures.converses

pub returns-in-Err-clause-told : goal.returns-in-Err-clause-told
returns-in-Err-clause-told g c = (Err _, c.in-Err.ensures.converses, refl)
