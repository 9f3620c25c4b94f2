use Rattle.std.proofs.Common.{refl, ◌∙◌, sym, subst, arith}
use Rattle.lra_reports.specs.Paging.{IsPaged}
use Rattle.lra_timelines.proofs.Listed.{line_more, lines_whole}
use Rattle.lra_timelines.proofs.listing.StateSnapshot.put_lines.Goals as goal

pub loop-place-preserved : goal.loop-place-preserved
loop-place-preserved g c = λ J same moments tallied called end.
    line_more c.args.self.now.choice.now c.args.self.now.prefix.now c.args.self.now.instance J c.args.listing.now
    c.args.starts.now c.loop-place.place c.in-Some.action _ 0
    c.args.self.now.end c.as_str.result.now c.args.page.now.items c.loop-place.page.items c.put_line.new.page.items
    (g.W.Write.contents c.args.writer.now) (g.W.Write.contents c.loop-place.writer)
    (g.W.Write.contents c.put_line.new.writer)
    same moments (sym c.action.ensures ∙ c.in-Some.is) refl end
    (c.as_str.ensures.value ∙ c.in_ok-lines.ensures c.args.listing.now.members J tallied called)
    (c.loop-place.invariant J same moments tallied called end) c.in_ok-put_line.ensures.written

pub returns-clause-written : goal.returns-clause-written
returns-clause-written g c = λ J same moments tallied called end.
    subst (IsPaged (g.W.Write.contents c.args.writer.now) (g.W.Write.contents c.loop-place.writer) c.args.page.now.items
    c.loop-place.page.items)
    (lines_whole c.args.self.now.choice.now c.args.self.now.prefix.now c.args.self.now.instance J c.args.starts.now
    c.loop-place.place moments (omega (arith, c.loop-place-test.false)))
    (c.loop-place.invariant J same moments tallied called end)
