use Rattle.std.proofs.Common.{ap, ◌∙◌}
use Rattle.lra_laws.specs.Snapshots.{StateSnapshot}
use Rattle.lra_rows.specs.inner.Held.{held_under}
use Rattle.lra_rows.proofs.Finding.{under_held}
use Rattle.lra_rows.proofs.rows.Rows.under.Goals as goal

pub returns : goal.returns
returns c = λ J h. c.held_under.ensures ∙ ap (λ (s : StateSnapshot). held_under s c.args.number) h.snapshot
    ∙ under_held h.version h.is_address J h.legal c.args.number
