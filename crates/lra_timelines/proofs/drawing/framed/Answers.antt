use Rattle.std.proofs.Common.{◌∙◌}
use Rattle.std.proofs.lemmas.Result.{IfOk-weaker}
use Rattle.lra_timelines.proofs.Rows.{framed_is}
use Rattle.lra_timelines.proofs.drawing.framed.Goals as goal

pub returns : goal.returns
returns c = λ cs draws.
    IfOk-weaker c.format.result _ _ (λ text is.
    is ∙ framed_is c.args.head.now cs _ _ _ c.args.drawing.now.count c.in_ok-height.height draws.count
    c.in_ok-height.ensures c.in_ok-opening.ensures c.in_ok-lanes.ensures (c.as_str-rows.ensures.value ∙ draws.text))
    c.format.ensures.ok
