use Rattle.lra_wire.proofs.FrontLemmas.{sees_nothing}
use Rattle.lra_wire.proofs.front.RequestCursor.nothing.Goals as goal

pub returns : goal.returns
returns c = sees_nothing
