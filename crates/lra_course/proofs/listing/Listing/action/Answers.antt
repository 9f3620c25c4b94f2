use Rattle.std.proofs.Common.{sym, ap, ◌∙◌, None, Some, option_map}
use Rattle.lra_laws.specs.Rows.{ActionRow}
use Rattle.lra_course.specs.ListedRows.{action_listed}
use Rattle.lra_course.proofs.ListingLaw.{action-listed}
use Rattle.lra_course.proofs.listing.Listing.action.Goals as goal

pub returns-in_err-row : goal.returns-in_err-row
returns-in_err-row c = c.from_residual.ensures ∙ action-listed c.self.inside.rows c.args.self.now c.args.number None
    c.self.view_is (sym c.action.ensures ∙ c.in_err-row.was)

pub returns : goal.returns
returns c =
    ap (λ (r : ActionRow). option_map (action_listed c.args.number) (Some r)) c.row.view_is
    ∙ action-listed c.self.inside.rows c.args.self.now c.args.number (Some c.in_ok-row.row) c.self.view_is
    (sym c.action.ensures ∙ c.in_ok-row.was)
