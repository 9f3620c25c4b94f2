use Rattle.std.proofs.Common.{ap, ◌∙◌}
use Rattle.lra_laws.specs.Snapshots.{StateSnapshot}
use Rattle.lra_rows.specs.inner.Held.{held_children}
use Rattle.lra_rows.proofs.Finding.{children_held}
use Rattle.lra_rows.proofs.rows.Rows.children.Goals as goal

pub returns : goal.returns
returns c = λ J h. c.held_children.ensures ∙ ap (λ (s : StateSnapshot). held_children s c.args.number) h.snapshot
    ∙ children_held h.version h.is_address J h.legal c.args.number
