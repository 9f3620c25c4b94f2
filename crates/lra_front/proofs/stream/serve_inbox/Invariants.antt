use Rattle.std.proofs.Common.{IsFalse}
use Rattle.lra_wire.specs.Inbox.{stream_of, is_spent}
use Rattle.lra_front.specs.declared.stream.StreamEnd.{StreamEnd}
use Rattle.lra_front.specs.Streams.{Standing, standing, ServesUpTo}
use Rattle.lra_front.proofs.stream.serve_inbox.Given as goal

abbrev pub invariant-loop-others : goal.invariant-loop-others
invariant-loop-others g l =
    IsFalse (is_spent l.inbox)
    × ((end : StreamEnd) (t : Standing g.row.K.Denot)
    → ServesUpTo g.C.Counter.gives g.K.Clock.tells l.others
    (standing (stream_of g.R.Read.remaining l.inbox) (g.C.Counter.sight l.counter) l.clock
    (g.W.Write.contents l.writer)) end t
    → ServesUpTo g.C.Counter.gives g.K.Clock.tells 999
    (standing (stream_of g.R.Read.remaining l.initial.inbox) (g.C.Counter.sight l.initial.counter) l.initial.clock
    (g.W.Write.contents l.initial.writer)) end t)

abbrev pub decreases-loop-others : goal.decreases-loop-others
decreases-loop-others g l = l.others
