use Rattle.lra_office.proofs.Journals.{journals_sound}
use Rattle.lra_office.proofs.laws.journals_are_sound.Goals as goal

pub returns : goal.returns
returns c = journals_sound
