use Rattle.lra_front.proofs.Transcribed.{are_transcripts}
use Rattle.lra_front.proofs.laws.streams_are_transcripts.Goals as goal

pub returns : goal.returns
returns g c = are_transcripts g.row.K.Denot g.C.Counter.gives g.K.Clock.tells g.met.C.Counter.keeps
