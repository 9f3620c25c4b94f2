use Rattle.std.proofs.Common.{ap, ◌∙◌}
use Rattle.lra_laws.specs.Settles.{end_by}
use Rattle.lra_laws.specs.Snapshots.{StateSnapshot}
use Rattle.lra_rows.proofs.Finding.{end_held}
use Rattle.lra_rows.proofs.rows.Rows.end.Goals as goal

pub returns-clause-history : goal.returns-clause-history
returns-clause-history c = λ J h. c.held_end.ensures ∙ ap (λ (s : StateSnapshot). end_by s.state c.args.action)
    h.snapshot
    ∙ end_held h.version h.is_address J h.legal c.args.action
