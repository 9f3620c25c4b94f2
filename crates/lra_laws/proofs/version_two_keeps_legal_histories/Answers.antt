use Rattle.lra_laws.proofs.Upgraded.{upgrade}
use Rattle.lra_laws.proofs.version_two_keeps_legal_histories.Goals as goal

pub returns : goal.returns
returns c = upgrade
