use Rattle.lra_event_loop.specs.Answered.{AnsweredWithRests}
use Rattle.lra_event_loop.proofs.event_loop.EventLoop.go_on.Given as goal

-- some requests were answered, with rests between them
abbrev pub invariant-loop-round : goal.invariant-loop-round
invariant-loop-round g l =
    AnsweredWithRests g.A.Handler.base_of g.A.Handler.responds g.A.Handler.rests g.K.Clock.tells
    (g.A.Handler.sight l.fn.handler) l.fn.clock (g.A.Handler.sight l.handler) l.clock
