use Rattle.std.proofs.Common.{refl, sym, ◌∙◌}
use Rattle.lra_timelines.proofs.Listed.{moments_none, last_none}
use Rattle.lra_timelines.proofs.start_times.StartTimesFollower.begin.Goals as goal

pub returns : goal.returns
returns c = (refl, c.requires.0 ∙ sym moments_none, c.requires.1 ∙ sym last_none, c.requires.2)
