use Rattle.std.proofs.Common.{◌∙◌, sym}
use Rattle.std.proofs.lemmas.List.{append_cancel_left}
use Rattle.lra_ids.specs.Identifiers.{id_text}
use Rattle.lra_ids.proofs.IdentifierFacts.{after_base}
use Rattle.lra_ids.proofs.identifier.read.Goals as goal

pub returns-in_err-after_prefix-clause-all : goal.returns-in_err-after_prefix-clause-all
returns-in_err-after_prefix-clause-all c = λ n spelled.
    let id = id_text c.args.instance n in
    let split = rw c.as_bytes.ensures.value at c.in_ok-below.ensures in
    absurd (c.in_err-after_prefix.ensures id (after_base c.args.text.now c.args.base.now c.in_ok-below.below.now
    c.args.part.now id split spelled.2))

pub returns-clause-all : goal.returns-clause-all
returns-clause-all c = λ n spelled.
    let id = id_text c.args.instance n in
    let split = rw c.as_bytes.ensures.value at c.in_ok-below.ensures in
    let below = after_base c.args.text.now c.args.base.now c.in_ok-below.below.now c.args.part.now id split spelled.2 in
    let rest = append_cancel_left c.args.part.now c.in_ok-after_prefix.field-0.now id
    (sym c.in_ok-after_prefix.ensures ∙ below) in
    c.read_bytes.ensures.all n (spelled.0, spelled.1, rest)
