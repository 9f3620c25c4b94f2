use Rattle.std.proofs.Common.{◌∙◌}
use Rattle.std.proofs.lemmas.Result.{IfOk-weaker}
use Rattle.lra_timelines.proofs.Rows.{four_parts}
use Rattle.lra_timelines.proofs.drawing.told_row.Goals as goal

pub returns : goal.returns
returns c = λ J h.
    IfOk-weaker c.format.result _ _ (λ text is.
    is ∙ four_parts _ _ _ _ _ _ _ _ c.in_ok-stretch.ensures c.in_ok-mark.ensures c.in_ok-moment.ensures
    (c.in_ok-words.ensures J h))
    c.format.ensures.ok
