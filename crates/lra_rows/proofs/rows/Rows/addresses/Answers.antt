use Rattle.std.proofs.Common.{ap, ◌∙◌}
use Rattle.lra_laws.specs.Snapshots.{StateSnapshot}
use Rattle.lra_rows.specs.inner.Held.{held_addresses}
use Rattle.lra_rows.proofs.Finding.{addresses_held}
use Rattle.lra_rows.proofs.rows.Rows.addresses.Goals as goal

pub returns : goal.returns
returns c = λ J h. c.held_addresses.ensures ∙ ap (λ (s : StateSnapshot). held_addresses s c.args.number) h.snapshot
    ∙ addresses_held h.version h.is_address J h.legal c.args.number
