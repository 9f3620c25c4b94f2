use Rattle.std.proofs.Common.{refl}
use Rattle.lra_course_rows.proofs.state.Rows.start.Goals as goal

pub push_action-requires : goal.push_action-requires
push_action-requires c = (rw (← c.self.view_is) at c.requires)

pub returns-clause-ok : goal.returns-clause-ok
returns-clause-ok c = rw (
  c.in_ok-push_action.ensures.ok,
  c.new_action-row.ensures c.args.action,
  c.new_top.ensures,
  ← c.self.view_is,
) refl
