use Rattle.lra_event_loop.proofs.Answers.{rests_none, rests_on}
use Rattle.lra_event_loop.proofs.event_loop.EventLoop.go_on.Goals as goal

pub loop-round-init : goal.loop-round-init
loop-round-init g c = rests_none g.A.Handler.base_of g.A.Handler.responds g.A.Handler.rests g.K.Clock.tells
    (g.A.Handler.sight c.args.handler.now) c.args.clock.now

pub returns-in-Some-run_once-clause-answered : goal.returns-in-Some-run_once-clause-answered
returns-in-Some-run_once-clause-answered g c =
    rests_on g.A.Handler.base_of g.A.Handler.responds g.A.Handler.rests g.K.Clock.tells
    (g.A.Handler.sight c.args.handler.now) (g.A.Handler.sight c.loop-round.handler)
    (g.A.Handler.sight c.run_once.new.handler)
    c.args.clock.now c.loop-round.clock c.run_once.new.clock c.loop-round.invariant c.run_once.ensures.answered

pub loop-round-preserved : goal.loop-round-preserved
loop-round-preserved g c =
    rests_on g.A.Handler.base_of g.A.Handler.responds g.A.Handler.rests g.K.Clock.tells
    (g.A.Handler.sight c.args.handler.now) (g.A.Handler.sight c.loop-round.handler)
    (g.A.Handler.sight c.run_once.new.handler)
    c.args.clock.now c.loop-round.clock c.run_once.new.clock c.loop-round.invariant c.run_once.ensures.answered
