use Rattle.lra_escape.proofs.Reading.{reads_back}
use Rattle.lra_escape.proofs.laws.escapes_read_back.Goals as goal

pub returns : goal.returns
returns c = reads_back
