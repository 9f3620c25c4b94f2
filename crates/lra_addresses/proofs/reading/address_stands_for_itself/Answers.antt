use Rattle.lra_addresses.proofs.AddressFacts.{address_is_own}
use Rattle.lra_addresses.proofs.reading.address_stands_for_itself.Goals as goal

pub returns : goal.returns
returns c = address_is_own
