use Rattle.std.proofs.Common.{◌∙◌}
use Rattle.std.proofs.lemmas.Result.{IfOk-weaker}
use Rattle.lra_timelines.proofs.Listed.{listed_same}
use Rattle.lra_timelines.proofs.tallies.listed_words.Goals as goal

pub returns-else-is_empty : goal.returns-else-is_empty
returns-else-is_empty c = IfOk-weaker c.join.result _ _ (λ text is. is
    ∙ listed_same c.args.words.now c.if-is_empty.ensures) c.join.ensures.ok
