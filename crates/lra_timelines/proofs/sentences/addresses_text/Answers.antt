use Rattle.std.proofs.Common.{List, ℕ, ap, ◌∙◌}
use Rattle.std.specs.Prelude.{codes, Option}
use Rattle.std.proofs.lemmas.Result.{IfOk-weaker}
use Rattle.lra_timelines.specs.Sentences.{address_text}
use Rattle.lra_timelines.proofs.Rows.{five_parts}
use Rattle.lra_timelines.proofs.sentences.addresses_text.Goals as goal

pub returns : goal.returns
returns c =
    IfOk-weaker c.format.result _ _ (λ text is.
    is
    ∙ five_parts _ _ _ _ _ _ _ _ _ _
    (c.in_ok-compensate.ensures ∙ ap (λ (o : Option (List ℕ)). address_text (codes "compensate") o)
    c.compensate.ensures)
    (c.in_ok-complete.ensures ∙ ap (λ (o : Option (List ℕ)). address_text (codes "complete") o) c.complete.ensures)
    (c.in_ok-status.ensures ∙ ap (λ (o : Option (List ℕ)). address_text (codes "status") o) c.status.ensures)
    (c.in_ok-forget.ensures ∙ ap (λ (o : Option (List ℕ)). address_text (codes "forget") o) c.forget.ensures)
    (c.in_ok-after.ensures ∙ ap (λ (o : Option (List ℕ)). address_text (codes "after") o) c.after.ensures))
    c.format.ensures.ok
