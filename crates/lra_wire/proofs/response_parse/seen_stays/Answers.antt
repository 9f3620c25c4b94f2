use Rattle.lra_wire.proofs.ComingLemmas.{sees_more}
use Rattle.lra_wire.proofs.response_parse.seen_stays.Goals as goal

pub returns : goal.returns
returns c = sees_more
