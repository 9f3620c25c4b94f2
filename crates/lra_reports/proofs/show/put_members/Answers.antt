use Rattle.std.proofs.Common.{sym, ◌∙◌, arith}
use Rattle.lra_reports.specs.Show.{member_line}
use Rattle.lra_reports.proofs.Lines.{IsPaged-line, row_missing}
use Rattle.lra_reports.proofs.show.put_members.Goals as goal
use Rattle.lra_reports.proofs.show.put_members.Goals.{in-Some+in_ok-line+in_ok-put_line, in_default}

pub loop-place-preserved : goal.loop-place-preserved
loop-place-preserved g c =
    elim c.match-member.branch [
      | in-Some+in_ok-line+in_ok-put_line w ↦ rw (w.writer-is, w.page-is)
          (IsPaged-line member_line c.args.listing.now.members c.loop-place.place w.in-Some.member w.as_str.result.now
          c.args.page.now.items c.loop-place.page.items w.put_line.new.page.items
          (g.W.Write.contents c.args.writer.now) (g.W.Write.contents c.loop-place.writer)
          (g.W.Write.contents w.put_line.new.writer)
          (sym c.member.ensures ∙ w.in-Some.is) (w.as_str.ensures.value ∙ w.in_ok-line.ensures) c.loop-place.invariant
          w.in_ok-put_line.ensures.written)
      | in_default w ↦ absurd (row_missing c.args.listing.now.members c.loop-place.place
          (omega (arith, c.loop-place-test.true, c.member_count-place-end.ensures))
          (sym c.member.ensures ∙ w.in_default.is))
    ]
