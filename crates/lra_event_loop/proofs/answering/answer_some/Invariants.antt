use Rattle.lra_event_loop.proofs.Answers.{Noting}
use Rattle.lra_event_loop.proofs.answering.answer_some.Given as goal

-- some requests were answered
abbrev pub invariant-loop-turn : goal.invariant-loop-turn
invariant-loop-turn g l =
    Noting g.A.Handler.base_of g.A.Handler.responds g.K.Clock.tells l.fn.connection l.connection
    (g.A.Handler.sight l.fn.handler) l.fn.clock (g.A.Handler.sight l.handler) l.clock l.fn.positions
    l.positions
