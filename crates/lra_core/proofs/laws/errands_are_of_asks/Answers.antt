use Rattle.lra_core.proofs.Carried.{errand_carried}
use Rattle.lra_core.proofs.laws.errands_are_of_asks.Goals as goal

pub returns : goal.returns
returns c = errand_carried
