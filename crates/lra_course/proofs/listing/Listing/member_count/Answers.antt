use Rattle.std.proofs.Common.{◌∙◌}
use Rattle.lra_course.proofs.ListingLaw.{member_count-listed}
use Rattle.lra_course.proofs.listing.Listing.member_count.Goals as goal

pub returns : goal.returns
returns c = c.count_members.ensures ∙ member_count-listed c.self.inside.rows c.args.self.now c.self.view_is
