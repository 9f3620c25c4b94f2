use Rattle.std.proofs.Common.{◌∙◌}
use Rattle.lra_timelines.specs.Sentences.{told_line}
use Rattle.lra_timelines.proofs.Writing.{more_of}
use Rattle.lra_timelines.proofs.explaining.push_told.Goals as goal

pub loop-entry-preserved : goal.loop-entry-preserved
loop-entry-preserved c = λ J h.
    more_of (told_line J) c.args.told.now c.loop-entry.entry-index _ _ _ _ _ c.loop-entry-test.true
    (c.deref.ensures ∙ c.in_ok-line.ensures J h) (c.loop-entry.invariant J h)
    c.in_ok-push_str.ensures.bytes
