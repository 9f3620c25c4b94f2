use Rattle.std.proofs.Common.{◌∙◌, ℕ, List, sym, ap}
use Rattle.std.specs.Prelude.{bytes_eq}
use Rattle.lra_addresses.specs.Addresses.{is_address}
use Rattle.lra_addresses.proofs.AddressFacts.{is_address-own, is_address-fault, is_address-not_utf8}
use Rattle.lra_addresses.proofs.reading.is_address_text.Goals as goal

pub returns-in_default : goal.returns-in_default
returns-in_default c = sym (is_address-not_utf8 c.args.text.now c.in_default.ensures.cases.0)

pub returns-in-Ok-address : goal.returns-in-Ok-address
returns-in-Ok-address c =
    let text = c.in-Ok.text.now in
    c.eq.ensures ∙ ap (λ (own : List ℕ). bytes_eq own text) c.as_str.ensures.value
    ∙ sym (is_address-own text c.in-Ok-address.own c.in-Ok-address.ensures.ok) ∙ ap is_address c.in-Ok.ensures.cases.0

pub returns-in_default-fault : goal.returns-in_default-fault
returns-in_default-fault c =
    let text = c.in-Ok.text.now in
    sym (is_address-fault text c.in-Err.fault (c.in-Err.ensures.fault c.in_default-fault.not-Memory))
    ∙ ap is_address c.in-Ok.ensures.cases.0
