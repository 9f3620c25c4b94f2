use Rattle.std.proofs.Common.{ap, ◌∙◌}
use Rattle.lra_laws.specs.Snapshots.{StateSnapshot}
use Rattle.lra_rows.specs.inner.Held.{held_ask}
use Rattle.lra_rows.proofs.Finding.{ask_held}
use Rattle.lra_rows.proofs.rows.Rows.ask.Goals as goal

pub returns : goal.returns
returns c = λ J h. c.held_ask.ensures ∙ ap (λ (s : StateSnapshot). held_ask s c.args.number) h.snapshot
    ∙ ask_held h.version h.is_address J h.legal c.args.number
