use Rattle.std.proofs.Common.{◌∷◌, [], ◌∙◌, arith, length-append}
use Rattle.lra_timelines.proofs.Rows.{row_added}
use Rattle.lra_timelines.proofs.drawing.Drawing.put_row.Goals as goal

pub returns : goal.returns
returns c = λ cs draws. record {
  text = row_added _ _ _ c.args.self.now.count cs c.args.content.now draws.text draws.count
      (c.deref.ensures ∙ c.in_ok-row.ensures) c.in_ok-push_str.ensures.bytes;
  count = let same = draws.count in let more = c.in_ok-count.ensures in
      let long = length-append cs (c.args.content.now ∷ []) in omega (arith, same, more, long);
}
