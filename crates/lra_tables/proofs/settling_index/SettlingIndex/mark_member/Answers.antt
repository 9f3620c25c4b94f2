use Rattle.std.proofs.Common.{◌<◌, length, arith}
use Rattle.lra_tables.proofs.Marked.{member_absent}
use Rattle.lra_tables.proofs.settling_index.SettlingIndex.mark_member.Goals as goal
use Rattle.lra_tables.proofs.settling_index.SettlingIndex.mark_member.Goals.{}
use Rattle.lra_tables.proofs.settling_index.SettlingIndex.mark_member.Goals.{else-member-gt0-via-then-member-gt0+else-member-len}
use Rattle.lra_tables.proofs.settling_index.SettlingIndex.mark_member.Goals.{else-member-gt0-via-else-member-gt0}

pub returns-else-member-gt0-clause-marked : goal.returns-else-member-gt0-clause-marked
returns-else-member-gt0-clause-marked c =
    let past : 0 < c.args.member → length c.args.self.now.skips.marked < c.args.member = elim c.else-member-gt0.branch [
      | else-member-gt0-via-then-member-gt0+else-member-len w ↦ λ some. omega arith
      | else-member-gt0-via-else-member-gt0 w ↦ λ some. absurd (omega arith)
    ] in
    member_absent c.args.rows.now.snapshot.state c.args.self.now c.args.member past
