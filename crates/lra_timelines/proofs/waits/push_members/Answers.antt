use Rattle.std.proofs.Common.{refl}
use Rattle.lra_timelines.specs.Waits.{member_notes}
use Rattle.lra_timelines.proofs.Writing.{more_of}
use Rattle.lra_timelines.proofs.waits.push_members.Goals as goal

pub loop-member-preserved : goal.loop-member-preserved
loop-member-preserved c = λ J h.
    more_of (member_notes J c.args.known.told.now c.args.status) c.args.members.now c.loop-member.member-index _ _ _ _ _
    c.loop-member-test.true refl (c.loop-member.invariant J h)
    (c.in_ok-push_member.ensures J h)
