use Rattle.lra_ids.proofs.Beginnings.{fit, ranges}
use Rattle.lra_ids.proofs.site_laws.sites_are_ranges.Goals as goal

pub returns-clause-ranges : goal.returns-clause-ranges
returns-clause-ranges c = ranges

pub returns-clause-fit : goal.returns-clause-fit
returns-clause-fit c = fit
