use Rattle.std.proofs.Common.{◌++◌, map, codes, ℕ, List, [], ◌∷◌, ap, ◌∙◌}
use Rattle.std.proofs.lemmas.List.{map-append}
use Rattle.lra_front.specs.inner.Seen.{seen}
use Rattle.lra_front.proofs.dialect_answer.add_version.Goals as goal

-- src/dialect_answer.rt:321:1
pub returns-in-Some-clause-fields : goal.returns-in-Some-clause-fields
returns-in-Some-clause-fields c = rw (c.in-Some.is) (ap (map seen) c.push_reserved.ensures.items
    ∙ map-append seen c.args.fields.now.items _
    ∙ ap (λ (value : List ℕ). map seen c.args.fields.now.items ++ (codes "Narayana-LRA-API-version", value) ∷ [])
    c.name.ensures)
