use Rattle.lra_rewrite.proofs.Orders.{others_stay}
use Rattle.lra_rewrite.proofs.laws.others_mean_themselves.Goals as goal

pub returns : goal.returns
returns c = others_stay
