use Rattle.lra_journal_router.proofs.UnknownInstances.{two_refused}
use Rattle.lra_journal_router.proofs.laws.two_instances_are_refused.Goals as goal

pub returns : goal.returns
returns c = two_refused
