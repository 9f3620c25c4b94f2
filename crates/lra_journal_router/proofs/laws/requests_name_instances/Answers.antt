use Rattle.lra_journal_router.proofs.UnknownInstances.{identifiers_name}
use Rattle.lra_journal_router.proofs.laws.requests_name_instances.Goals as goal

pub returns : goal.returns
returns c = identifiers_name
