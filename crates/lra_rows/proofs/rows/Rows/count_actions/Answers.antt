use Rattle.std.proofs.Common.{length, ap, ◌∙◌}
use Rattle.std.proofs.lemmas.List.{length-map}
use Rattle.lra_model.specs.History.{actions}
use Rattle.lra_laws.specs.Rows.{action_row}
use Rattle.lra_laws.specs.Snapshots.{StateSnapshot}
use Rattle.lra_rows.specs.Rowed.{Rowed}
use Rattle.lra_rows.proofs.rows.Rows.count_actions.Goals as goal

pub returns : goal.returns
returns c = λ J h. c.len.ensures ∙ c.self.inside.actions.ok.0 ∙ ap (λ (s : StateSnapshot). length s.state.actions)
    (ap (λ (r : Rowed). r.snapshot) c.self.view_is ∙ h.snapshot) ∙ length-map (actions J) (action_row J)
