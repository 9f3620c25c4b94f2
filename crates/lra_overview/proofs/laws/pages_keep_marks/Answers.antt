use Rattle.lra_overview.proofs.Marks.{home_keeps_marks, action_keeps_marks, reply_keeps_marks, plain_keeps_marks}
use Rattle.lra_overview.proofs.laws.pages_keep_marks.Goals as goal

pub returns : goal.returns
returns c = record {
  home = home_keeps_marks;
  action = action_keeps_marks;
  reply = reply_keeps_marks;
  plain =
      plain_keeps_marks;
}
