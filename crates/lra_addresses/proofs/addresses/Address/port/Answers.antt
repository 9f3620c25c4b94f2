use Rattle.std.proofs.Common.{refl}
use Rattle.lra_addresses.specs.Addresses.{port_of}
use Rattle.lra_addresses.proofs.AddressFacts.{parse_url-own}
use Rattle.lra_addresses.proofs.addresses.Address.port.Goals as goal

pub returns : goal.returns
unfolding port_of
returns c =
    rw (
      c.port.ensures.value,
      ← c.self.view_is,
      parse_url-own c.self.inside.url c.port.ensures.valid
          c.self.invariant.scheme,
    ) refl
