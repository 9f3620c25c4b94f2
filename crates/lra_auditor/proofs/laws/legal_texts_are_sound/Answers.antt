use Rattle.lra_auditor.proofs.OneVerdict.{legal_text_sound}
use Rattle.lra_auditor.proofs.laws.legal_texts_are_sound.Goals as goal

pub returns : goal.returns
returns c = legal_text_sound
