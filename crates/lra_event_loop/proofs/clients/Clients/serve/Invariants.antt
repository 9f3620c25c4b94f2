use Rattle.lra_event_loop.specs.inner.Stretches.{AnsweredSome}
use Rattle.lra_event_loop.proofs.clients.Clients.serve.Given as goal

-- some requests were answered
abbrev pub invariant-loop-key : goal.invariant-loop-key
invariant-loop-key g l =
    AnsweredSome g.A.Handler.base_of g.A.Handler.responds g.K.Clock.tells (g.A.Handler.sight l.fn.handler)
    l.fn.clock (g.A.Handler.sight l.handler) l.clock

-- and some more
abbrev pub invariant-loop-visit : goal.invariant-loop-visit
invariant-loop-visit g l =
    AnsweredSome g.A.Handler.base_of g.A.Handler.responds g.K.Clock.tells (g.A.Handler.sight l.fn.handler)
    l.fn.clock (g.A.Handler.sight l.handler) l.clock
