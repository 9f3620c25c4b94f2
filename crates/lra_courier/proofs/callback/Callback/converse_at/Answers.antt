use Rattle.std.proofs.Common.{refl}
use Rattle.lra_courier.proofs.ExchangeLemmas.{conversed}
use Rattle.lra_courier.proofs.callback.Callback.converse_at.Goals as goal

pub returns-in-Ok-clause-converses : goal.returns-in-Ok-clause-converses
returns-in-Ok-clause-converses g c = (
  c.send_to.new.writer,
  conversed _ _ _ _ _ _ c.in-Ok.ensures refl
      c.answer_of.ensures.answers,
)

pub returns-in-Err-clause-converses : goal.returns-in-Err-clause-converses
returns-in-Err-clause-converses g c = (c.send_to.new.writer, c.in-Err.ensures)
