use Rattle.lra_rules.proofs.Addresses.{canonical_octets, canonical_width}
use Rattle.lra_rules.proofs.network.canonical.Goals as goal

pub returns-clause-octets : goal.returns-clause-octets
returns-clause-octets c = canonical_octets c.args.ip _ c.to_canonical.ensures

pub returns-clause-width : goal.returns-clause-width
returns-clause-width c = canonical_width c.args.ip _ c.to_canonical.ensures
