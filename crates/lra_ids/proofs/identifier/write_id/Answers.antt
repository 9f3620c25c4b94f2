use Rattle.std.proofs.Common.{◌∙◌, ap, length}
use Rattle.uuid.specs.Text.{hyphenated_text, lower}
use Rattle.lra_ids.specs.Identifiers.{id_text}
use Rattle.lra_ids.proofs.IdentifierFacts.{length-id_text}
use Rattle.lra_ids.proofs.identifier.write_id.Goals as goal

pub returns-clause-text : goal.returns-clause-text
unfolding id_text
returns-clause-text c =
    c.encode_lower.ensures.text ∙ ap (hyphenated_text lower) (c.hyphenated.ensures ∙ c.id_of.ensures.value)

pub returns-clause-len : goal.returns-clause-len
unfolding id_text
returns-clause-len c =
    ap length (c.encode_lower.ensures.text ∙ ap (hyphenated_text lower) (c.hyphenated.ensures ∙ c.id_of.ensures.value))
    ∙ length-id_text c.args.instance c.args.n
