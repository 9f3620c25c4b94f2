use Rattle.std.proofs.Common.{ap, ◌∙◌}
use Rattle.lra_laws.specs.Snapshots.{StateSnapshot}
use Rattle.lra_rows.specs.inner.Held.{held_action}
use Rattle.lra_rows.proofs.Finding.{action_held}
use Rattle.lra_rows.proofs.rows.Rows.action.Goals as goal

pub returns : goal.returns
returns c = λ J h. c.held_action.ensures ∙ ap (λ (s : StateSnapshot). held_action s c.args.number) h.snapshot
    ∙ action_held h.version h.is_address J h.legal c.args.number
