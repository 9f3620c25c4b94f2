use Rattle.lra_ids.proofs.Beginnings.{apart, never_meet}
use Rattle.lra_ids.proofs.site_laws.sites_never_meet.Goals as goal

pub returns-clause-apart : goal.returns-clause-apart
returns-clause-apart c = apart

pub returns-clause-uris : goal.returns-clause-uris
returns-clause-uris c = never_meet
