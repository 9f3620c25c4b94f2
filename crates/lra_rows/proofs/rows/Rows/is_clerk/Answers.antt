use Rattle.std.proofs.Common.{ap, ◌∙◌}
use Rattle.lra_model.specs.History.{clerks}
use Rattle.lra_laws.specs.Snapshots.{StateSnapshot}
use Rattle.lra_laws.proofs.Legal.{clerks_numbered}
use Rattle.lra_laws.proofs.Agree.{clerk_agrees}
use Rattle.lra_rows.specs.inner.Held.{held_clerk}
use Rattle.lra_rows.proofs.rows.Rows.is_clerk.Goals as goal

pub returns : goal.returns
returns c = λ J h. c.held_clerk.ensures ∙ ap (λ (s : StateSnapshot). held_clerk s c.args.number) h.snapshot
    ∙ clerk_agrees (clerks J) (clerks_numbered h.version h.is_address J h.legal) c.args.number
