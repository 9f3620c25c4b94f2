use Rattle.std.proofs.Common.{ap, ◌∙◌}
use Rattle.lra_laws.specs.Snapshots.{StateSnapshot}
use Rattle.lra_rows.specs.Rowed.{Rowed}
use Rattle.lra_rows.proofs.rows.Rows.count_entries.Goals as goal

pub returns : goal.returns
returns c = λ J h. ap (λ (s : StateSnapshot). s.entries) (ap (λ (r : Rowed). r.snapshot) c.self.view_is ∙ h.snapshot)
