use Rattle.lra_core.proofs.Committing.{fits_once}
use Rattle.lra_core.proofs.laws.blocks_fit_once.Goals as goal

pub returns : goal.returns
returns c = fits_once
