use Rattle.std.proofs.Common.{ap, ◌∙◌}
use Rattle.lra_laws.specs.Settles.{turn_by}
use Rattle.lra_laws.specs.Snapshots.{StateSnapshot}
use Rattle.lra_laws.proofs.SettlesNext.{turn_agrees}
use Rattle.lra_rows.proofs.rows.Rows.by_parent.Goals as goal

pub returns-clause-history : goal.returns-clause-history
returns-clause-history c = λ J h. c.held_turn.ensures ∙ ap (λ (s : StateSnapshot). turn_by s.state c.args.action)
    h.snapshot
    ∙ turn_agrees h.version h.is_address J h.legal c.args.action
