use Rattle.lra_rewrite.proofs.Orders.{joins_so}
use Rattle.lra_rewrite.proofs.laws.joins_ask_for_http.Goals as goal

pub returns : goal.returns
returns c = joins_so
