use Rattle.lra_ids.proofs.Bearings.{of_one, read_whole, read_ends}
use Rattle.lra_ids.proofs.instance_laws.identifiers_are_of_one_instance.Goals as goal

pub returns-clause-alone : goal.returns-clause-alone
returns-clause-alone c = of_one

pub returns-clause-whole : goal.returns-clause-whole
returns-clause-whole c = read_whole

pub returns-clause-ends : goal.returns-clause-ends
returns-clause-ends c = read_ends
