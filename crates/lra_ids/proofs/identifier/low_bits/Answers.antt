use Rattle.std.proofs.Common.{Some, ap}
use Rattle.lra_ids.proofs.IdentifierFacts.{id_read, id_low, id_is_read}
use Rattle.lra_ids.proofs.identifier.low_bits.Goals as goal

pub returns-in_err-ok-clause-all : goal.returns-in_err-ok-clause-all
returns-in_err-ok-clause-all c = λ instance n _ _ is.
    let r = c.try_parse_ascii.result in
    let read = id_read r c.args.text.now instance n is c.try_parse_ascii.ensures.ok c.try_parse_ascii.ensures.bytes in
    absurd (id_is_read r instance n read c.in_err-ok.ensures.value)

pub returns-clause-all : goal.returns-clause-all
returns-clause-all c = λ instance n is_instance is_number is.
    let r = c.try_parse_ascii.result in
    let read = id_read r c.args.text.now instance n is c.try_parse_ascii.ensures.ok c.try_parse_ascii.ensures.bytes in
    ap Some (id_low r c.in_ok-ok.field-0 c.as_u64_pair-low.result.1 instance n read c.in_ok-ok.ensures.value
    c.as_u64_pair-low.ensures.low is_instance is_number)
