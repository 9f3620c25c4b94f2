use Rattle.std.proofs.Common.{List, ℕ, ap, ◌∙◌}
use Rattle.std.proofs.lemmas.Result.{IfOk-weaker}
use Rattle.lra_timelines.specs.Drawn.{words}
use Rattle.lra_timelines.proofs.drawing.told_words.Goals as goal

pub returns : goal.returns
returns c = λ J h.
    IfOk-weaker c.words.result _ _ (λ text is. is ∙ ap (λ (x : List ℕ). words x)
    (c.deref.ensures ∙ c.in_ok-line.ensures J h)) c.words.ensures
