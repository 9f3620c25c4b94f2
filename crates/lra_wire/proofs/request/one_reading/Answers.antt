use Rattle.lra_wire.proofs.RequestsLemmas.{one_reading, awaits_none}
use Rattle.lra_wire.proofs.request.one_reading.Goals as goal

pub returns-clause-reading : goal.returns-clause-reading
returns-clause-reading c = one_reading

pub returns-clause-rests : goal.returns-clause-rests
returns-clause-rests c = awaits_none
