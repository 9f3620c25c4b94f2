use Rattle.std.proofs.Common.{ap, ◌∙◌}
use Rattle.lra_laws.specs.Snapshots.{StateSnapshot}
use Rattle.lra_rows.specs.inner.Held.{held_members}
use Rattle.lra_rows.proofs.Finding.{members_held}
use Rattle.lra_rows.proofs.rows.Rows.members.Goals as goal

pub returns : goal.returns
returns c = λ J h. c.held_members.ensures ∙ ap (λ (s : StateSnapshot). held_members s c.args.number) h.snapshot
    ∙ members_held h.version h.is_address J h.legal c.args.number
