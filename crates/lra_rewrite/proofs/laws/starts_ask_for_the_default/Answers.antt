use Rattle.lra_rewrite.proofs.Orders.{asks_so}
use Rattle.lra_rewrite.proofs.laws.starts_ask_for_the_default.Goals as goal

pub returns : goal.returns
returns c = asks_so
