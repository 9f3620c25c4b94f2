use Rattle.std.proofs.Common.{ℕ, List, ◌++◌, ap, sym, ◌∙◌}
use Rattle.std.specs.Prelude.{codes}
use Rattle.std.specs.Fmt.{decimal}
use Rattle.std.proofs.lemmas.Result.{IfOk-weaker}
use Rattle.std.proofs.lemmas.List.{append-nil}
use Rattle.lra_timelines.specs.Sentences as sentences
use Rattle.lra_timelines.proofs.sentences.said_text.Goals as goal

pub returns : goal.returns
returns c =
    IfOk-weaker c.format.result _ _ (λ text is.
    is ∙ ap (λ (w : List ℕ). codes "member " ++ (decimal c.args.member ++ (codes " answered that " ++ w)))
    (c.outcome_words-words.ensures ∙ sym (append-nil (sentences.outcome_words c.args.stage c.args.outcome))))
    c.format.ensures.ok
