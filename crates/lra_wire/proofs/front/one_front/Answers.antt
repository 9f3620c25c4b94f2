use Rattle.lra_wire.proofs.FrontLemmas.{request_more, sees_more, refused_more, unfinished_none, faulty_none}
use Rattle.lra_wire.proofs.RequestsLemmas.{same_request}
use Rattle.lra_wire.proofs.front.one_front.Goals as goal

pub returns-clause-stays : goal.returns-clause-stays
returns-clause-stays c = request_more

pub returns-clause-one : goal.returns-clause-one
returns-clause-one c = same_request

pub returns-clause-seen : goal.returns-clause-seen
returns-clause-seen c = sees_more

pub returns-clause-refused : goal.returns-clause-refused
returns-clause-refused c = refused_more

pub returns-clause-unfinished : goal.returns-clause-unfinished
returns-clause-unfinished c = unfinished_none

pub returns-clause-faulty : goal.returns-clause-faulty
returns-clause-faulty c = faulty_none
