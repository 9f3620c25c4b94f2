use Rattle.lra_front.proofs.InTurn.{written_in_turn}
use Rattle.lra_front.proofs.laws.streams_write_in_turn.Goals as goal

pub returns : goal.returns
returns g c = written_in_turn g.row.K.Denot g.C.Counter.gives g.K.Clock.tells g.met.C.Counter.keeps
