use Rattle.lra_addresses.proofs.AddressFacts.{is_address-fit}
use Rattle.lra_addresses.proofs.addresses.Address.as_str.Goals as goal

pub returns-clause-graphic : goal.returns-clause-graphic
returns-clause-graphic c =
    rw c.as_str.ensures.value (is_address-fit _ c.self.invariant.own).graphic

pub returns-clause-long : goal.returns-clause-long
returns-clause-long c =
    rw c.as_str.ensures.value (is_address-fit _ c.self.invariant.own).long

pub returns-clause-short : goal.returns-clause-short
returns-clause-short c =
    rw c.as_str.ensures.value (is_address-fit _ c.self.invariant.own).short
