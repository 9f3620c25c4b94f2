use Rattle.std.proofs.Common.{◌∷◌, [], sym, ap, ◌∙◌, arith}
use Rattle.std.specs.Prelude.{codes}
use Rattle.std.proofs.lemmas.Slice.Eq.{bytes_eq-Decides}
use Rattle.lra_words.specs.Asked.{texts}
use Rattle.lra_words.proofs.Worded.{two}
use Rattle.lra_words.proofs.asked.read_audit.Goals as goal

pub returns-in-len2-clause-file : goal.returns-in-len2-clause-file
returns-in-len2-clause-file c =
    let words = ap texts (two c.args.words.now c.verb-item.result c.file-item.result (omega arith) c.verb-item.is
    c.file-item.is) in
    let audit = (bytes_eq-Decides c.as_str.result.now (codes "audit")).0 (sym c.eq.ensures ∙ c.if-eq.true) in
    words ∙ (λ i. (sym c.as_str.ensures.value ∙ audit) i ∷ sym c.as_str-in-len2.ensures.value i ∷ [])
