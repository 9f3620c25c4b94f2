use Rattle.std.proofs.Common.{List, ℕ, ◌++◌, ap, ◌∙◌}
use Rattle.std.specs.Prelude.{codes}
use Rattle.std.specs.Fmt.{decimal}
use Rattle.std.proofs.lemmas.Result.{IfOk-weaker}
use Rattle.lra_timelines.proofs.sentences.told_line.Goals as goal

pub returns : goal.returns
returns c = λ J h.
    IfOk-weaker c.format.result _ _ (λ text is.
    is ∙ ap (λ (x : List ℕ). codes "line " ++ (decimal c.args.told.now.line ++ (codes ": " ++ (x ++ codes "\n"))))
    (c.in_ok-words.ensures J h))
    c.format.ensures.ok
