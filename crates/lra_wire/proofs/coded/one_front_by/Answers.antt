use Rattle.lra_wire.proofs.CodedLemmas.{request_more_by, coded_more, refused_more_by}
use Rattle.lra_wire.proofs.coded.one_front_by.Goals as goal

pub returns-clause-stays : goal.returns-clause-stays
returns-clause-stays c = request_more_by

pub returns-clause-seen : goal.returns-clause-seen
returns-clause-seen c = coded_more

pub returns-clause-refused : goal.returns-clause-refused
returns-clause-refused c = refused_more_by
