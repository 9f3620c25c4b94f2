use Rattle.lra_core.proofs.Sounds.{calls_make_sound}
use Rattle.lra_core.proofs.laws.commands_make_sound_texts.Goals as goal

pub returns : goal.returns
returns c = calls_make_sound
