use Rattle.std.proofs.Common.{ap, ◌∙◌}
use Rattle.lra_laws.specs.Snapshots.{StateSnapshot}
use Rattle.lra_rows.specs.inner.Held.{held_member}
use Rattle.lra_rows.proofs.Finding.{member_held}
use Rattle.lra_rows.proofs.rows.Rows.member.Goals as goal

pub returns : goal.returns
returns c = λ J h. c.held_member.ensures ∙ ap (λ (s : StateSnapshot). held_member s c.args.number) h.snapshot
    ∙ member_held h.version h.is_address J h.legal c.args.number
