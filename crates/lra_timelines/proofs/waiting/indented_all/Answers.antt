use Rattle.std.proofs.Common.{arith, ap, ◌∙◌, string_bytes}
use Rattle.lra_timelines.specs.Lines.{indented}
use Rattle.lra_timelines.proofs.Noting.{indented_more, indented_whole}
use Rattle.lra_timelines.proofs.waiting.indented_all.Goals as goal

pub loop-place-preserved : goal.loop-place-preserved
loop-place-preserved c =
    indented_more c.args.prefix.now c.args.notes.now c.loop-place.place c.index-notes-place.result _ _ _
    (omega (arith, c.loop-place-test.true)) c.loop-place.invariant
    (
    c.deref.ensures
    ∙ c.in_ok-line.ensures
    ∙ ap (indented c.args.prefix.now) (c.as_str.ensures.value ∙ ap string_bytes c.index-notes-place.is)
    )
    c.in_ok-push_str.ensures.bytes

pub returns : goal.returns
returns c =
    indented_whole c.args.prefix.now c.args.notes.now c.loop-place.place _ (omega (arith, c.loop-place-test.false))
    c.loop-place.invariant
