use Rattle.std.proofs.Common.{arith}
use Rattle.lra_timelines.specs.Waits.{action_note}
use Rattle.lra_timelines.proofs.Writing.{note_more}
use Rattle.lra_timelines.proofs.waits.push_actions.Goals as goal

pub loop-place-preserved : goal.loop-place-preserved
loop-place-preserved c = λ J h.
    note_more (action_note J c.args.status) c.args.nested.now c.loop-place.place 0 c.args.notes.now.items
    c.loop-place.notes.items c.push.new.self.items c.in_ok-note.note
    (omega (arith, c.loop-place-test.true)) (c.in_ok-note.ensures J h) (c.loop-place.invariant J h)
    c.in_ok-push.ensures.items
