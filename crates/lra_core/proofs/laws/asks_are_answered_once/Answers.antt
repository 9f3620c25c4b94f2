use Rattle.lra_core.proofs.AnsweredOnce.{answered_once}
use Rattle.lra_core.proofs.laws.asks_are_answered_once.Goals as goal

pub returns : goal.returns
returns c = answered_once
