use Rattle.lra_laws.proofs.GoodLaw.{good_ends}
use Rattle.lra_laws.proofs.legal_histories_have_good_ends.Goals as goal

pub returns : goal.returns
returns c = good_ends
