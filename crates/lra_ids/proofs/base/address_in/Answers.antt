use Rattle.std.proofs.Common.{◌≡◌, false}
use Rattle.lra_addresses.specs.Addresses.{is_address}
use Rattle.lra_addresses.proofs.AddressFacts.{is_address-fault}
use Rattle.lra_ids.proofs.base.address_in.Goals as goal

pub returns-in_default : goal.returns-in_default
returns-in_default c =
    let other : is_address c.args.text.now ≡ false = is_address-fault c.args.text.now c.in-Err.fault
    (c.in-Err.ensures.fault c.in_default.not-Memory) in
    record { some = tt; none = λ _. other }
