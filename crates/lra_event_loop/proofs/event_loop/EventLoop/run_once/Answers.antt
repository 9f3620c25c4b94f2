use Rattle.lra_event_loop.proofs.Answers.{rests_none, rests_round}
use Rattle.lra_event_loop.proofs.event_loop.EventLoop.run_once.Goals as goal

pub returns-then-has_failed-clause-answered : goal.returns-then-has_failed-clause-answered
returns-then-has_failed-clause-answered g c = rests_none g.A.Handler.base_of g.A.Handler.responds
    g.A.Handler.rests g.K.Clock.tells (g.A.Handler.sight c.args.handler.now) c.args.clock.now

pub returns-in-Closed-clause-answered : goal.returns-in-Closed-clause-answered
returns-in-Closed-clause-answered g c = rests_none g.A.Handler.base_of g.A.Handler.responds g.A.Handler.rests
    g.K.Clock.tells (g.A.Handler.sight c.args.handler.now) c.args.clock.now

pub returns-in-Closing-clause-answered : goal.returns-in-Closing-clause-answered
returns-in-Closing-clause-answered g c = rests_none g.A.Handler.base_of g.A.Handler.responds g.A.Handler.rests
    g.K.Clock.tells (g.A.Handler.sight c.args.handler.now) c.args.clock.now

pub returns-in-Open-clause-answered : goal.returns-in-Open-clause-answered
returns-in-Open-clause-answered g c =
    rests_round g.A.Handler.base_of g.A.Handler.responds g.A.Handler.rests g.K.Clock.tells
    g.met.A.Handler.rest_stays
    (g.A.Handler.sight c.args.handler.now) (g.A.Handler.sight c.serve.new.handler)
    (g.A.Handler.sight c.rest.new.handler)
    c.args.clock.now c.serve.new.clock c.serve.ensures c.rest.ensures
