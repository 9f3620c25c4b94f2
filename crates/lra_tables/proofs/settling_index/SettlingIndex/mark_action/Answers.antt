use Rattle.std.proofs.Common.{◌<◌, ◌⊎◌, inl, inr, length, arith}
use Rattle.lra_tables.proofs.Marked.{action_absent}
use Rattle.lra_tables.proofs.settling_index.SettlingIndex.mark_action.Goals as goal
use Rattle.lra_tables.proofs.settling_index.SettlingIndex.mark_action.Goals.{}
use Rattle.lra_tables.proofs.settling_index.SettlingIndex.mark_action.Goals.{else-action-gt0-via-then-action-gt0+then-action-len+else-action-len-2, else-action-gt0-via-then-action-gt0+else-action-len, else-action-gt0-via-else-action-gt0}

pub returns-else-action-gt0-clause-marked : goal.returns-else-action-gt0-clause-marked
returns-else-action-gt0-clause-marked c =
    let past : 0 < c.args.action → (length c.args.self.now.turns.marked < c.args.action)
    ⊎ (length c.args.self.now.ends.marked < c.args.action) = elim c.else-action-gt0.branch [
      | else-action-gt0-via-then-action-gt0+then-action-len+else-action-len-2 w ↦ λ some. inr (omega arith)
      | else-action-gt0-via-then-action-gt0+else-action-len w ↦ λ some. inl (omega arith)
      | else-action-gt0-via-else-action-gt0 w ↦ λ some. absurd (omega arith)
    ] in
    action_absent c.args.rows.now.snapshot.state c.args.self.now c.args.action past
