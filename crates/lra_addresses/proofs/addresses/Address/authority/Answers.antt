use Rattle.std.proofs.Common.{refl}
use Rattle.lra_addresses.specs.Addresses.{authority_of}
use Rattle.lra_addresses.proofs.AddressFacts.{parse_url-own}
use Rattle.lra_addresses.proofs.addresses.Address.authority.Goals as goal

pub returns : goal.returns
unfolding authority_of
returns c =
    rw (
      c.slice.ensures.value,
      ← c.self.view_is,
      parse_url-own c.self.inside.url c.slice.ensures.valid
          c.self.invariant.scheme,
    ) refl
