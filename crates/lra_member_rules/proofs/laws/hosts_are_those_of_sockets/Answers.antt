use Rattle.lra_ids.specs.Addresses.{authority_of, port_of}
use Rattle.lra_member_rules.proofs.Hosts.{same_host}
use Rattle.lra_member_rules.proofs.laws.hosts_are_those_of_sockets.Goals as goal

pub returns : goal.returns
returns c address = same_host (port_of address) (authority_of address)
