use Rattle.std.proofs.Common.{◌∙◌}
use Rattle.std.proofs.lemmas.Result.{IfOk-weaker}
use Rattle.lra_timelines.proofs.Listed.{id_at_end}
use Rattle.lra_timelines.proofs.listing.id_text.Goals as goal

pub returns : goal.returns
returns c =
    IfOk-weaker c.from_str.result _ _
    (λ text is. is ∙ id_at_end c.deref.result.now c.args.base.now c.in_ok-end_of.field-0.now c.args.instance
    c.args.action (c.deref.ensures ∙ c.in_ok-uri.ensures) c.in_ok-end_of.ensures)
    c.from_str.ensures.ok
