use Rattle.std.proofs.Common.{ap, ◌∙◌}
use Rattle.lra_laws.specs.Settles.{may_skip_by}
use Rattle.lra_laws.specs.Snapshots.{StateSnapshot}
use Rattle.lra_laws.proofs.SettlesNext.{may_skip_agrees}
use Rattle.lra_rows.proofs.rows.Rows.may_be_skipped.Goals as goal

pub returns-clause-history : goal.returns-clause-history
returns-clause-history c = λ J h. c.held_skip.ensures ∙ ap (λ (s : StateSnapshot). may_skip_by s.state c.args.member)
    h.snapshot
    ∙ may_skip_agrees h.version h.is_address J h.legal c.args.member
