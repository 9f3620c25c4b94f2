use Rattle.std.proofs.Common.{sym, ◌∙◌}
use Rattle.lra_inspect.proofs.Counting.{statuses_none}
use Rattle.lra_inspect.proofs.counts.FollowCountsFollower.begin.Goals as goal

pub returns : goal.returns
returns c = record { entries = c.requires.0; statuses = c.requires.1 ∙ sym statuses_none }
