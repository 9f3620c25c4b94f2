use Rattle.std.proofs.Common.{sym}
use Rattle.lra_course_rows.proofs.Index.{change_row-same, with_member-same}
use Rattle.lra_laws.specs.Rows.{with_member}
use Rattle.lra_course_rows.proofs.advance.count_member.Goals as goal

pub returns-then-counts_same : goal.returns-then-counts_same
returns-then-counts_same c =
    let same = c.counts_same.ensures c.if-counts_same.true in
    sym (change_row-same (with_member c.args.before.now c.args.now.now) c.args.before.now.action
    c.args.actions.now.items (with_member-same c.args.before.now c.args.now.now same.0 same.1))
