use Rattle.std.proofs.Common.{◌∙◌}
use Rattle.lra_course.proofs.ListingLaw.{action_count-listed}
use Rattle.lra_course.proofs.listing.Listing.action_count.Goals as goal

pub returns : goal.returns
returns c = c.count_actions.ensures ∙ action_count-listed c.self.inside.rows c.args.self.now c.self.view_is
