use Rattle.lra_journal_router.proofs.UnknownInstances.{unknown_instances_deny}
use Rattle.lra_journal_router.proofs.laws.unknown_instances_are_denied.Goals as goal

pub returns : goal.returns
returns c = unknown_instances_deny
