use Rattle.lra_ids.proofs.Beginnings.{begins, action_begins, recovery_begins}
use Rattle.lra_ids.proofs.site_laws.identifiers_begin_with_their_site.Goals as goal

pub returns-clause-id : goal.returns-clause-id
returns-clause-id c = begins

pub returns-clause-action : goal.returns-clause-action
returns-clause-action c = action_begins

pub returns-clause-recovery : goal.returns-clause-recovery
returns-clause-recovery c = recovery_begins
