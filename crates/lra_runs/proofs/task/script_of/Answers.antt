use Rattle.std.proofs.Common.{◌∷◌, [], sym, ap, ◌∙◌, arith}
use Rattle.std.specs.Prelude.{codes}
use Rattle.std.proofs.lemmas.Slice.Eq.{bytes_eq-Decides}
use Rattle.lra_words.specs.Asked.{texts}
use Rattle.lra_words.proofs.Worded.{two}
use Rattle.lra_runs.proofs.task.script_of.Goals as goal

pub returns-in-len2-clause-some : goal.returns-in-len2-clause-some
returns-in-len2-clause-some c =
    let words = ap texts (two c.args.words.now c.verb-item.result c.script-item.result (omega arith) c.verb-item.is
    c.script-item.is) in
    let play = (bytes_eq-Decides c.as_str.result.now (codes "play")).0 (sym c.eq.ensures ∙ c.if-eq.true) in
    words ∙ (λ i. (sym c.as_str.ensures.value ∙ play) i ∷ sym c.as_str-in-len2.ensures.value i ∷ [])
