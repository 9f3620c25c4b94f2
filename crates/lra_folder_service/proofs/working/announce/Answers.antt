use Rattle.std.proofs.lemmas.Result.{IfErr-weaker}
use Rattle.lra_folder_service.proofs.Said.{at_fault}
use Rattle.lra_folder_service.proofs.working.announce.Goals as goal

pub returns-clause-fault : goal.returns-clause-fault
returns-clause-fault g c = IfErr-weaker c.say.result _ _ (at_fault _ _ _) c.say.ensures.fault
