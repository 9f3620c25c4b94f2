use Rattle.std.proofs.Common.{map, ◌++◌, ap, sym, ◌∙◌}
use Rattle.std.proofs.lemmas.List.{map-append}
use Rattle.lra_front.specs.Replies as spec
use Rattle.lra_front.specs.declared.answer.Answer.TheVariants.{Denied}
use Rattle.lra_front.specs.inner.Seen.{seen}
use Rattle.lra_front.proofs.answer.Answer.add_fields.Goals as goal

pub returns-in-Denied-WrongKey-clause-fields : goal.returns-in-Denied-WrongKey-clause-fields
returns-in-Denied-WrongKey-clause-fields c =
    ap (map seen) c.push_reserved-in-Denied-WrongKey.ensures.items
    ∙ map-append seen c.args.fields.now.items _
    ∙ ap (λ a. map seen c.args.fields.now.items ++ spec.own_fields c.args.uri.now a)
    (sym (c.in-Denied-WrongKey.is ∙ ap Denied (rw c.in-Denied-WrongKey.is at c.in-Denied-WrongKey.field-0-is)))
