use Rattle.lra_event_loop.proofs.Answers.{some_on}
use Rattle.lra_event_loop.proofs.clients.Clients.serve.Goals as goal

pub loop-key-preserved : goal.loop-key-preserved
loop-key-preserved g c =
    some_on g.A.Handler.base_of g.A.Handler.responds g.K.Clock.tells (g.A.Handler.sight c.args.handler.now)
    (g.A.Handler.sight c.loop-key.handler) (g.A.Handler.sight c.serve_one.new.handler)
    c.args.clock.now c.loop-key.clock c.serve_one.new.clock c.loop-key.invariant c.serve_one.ensures

pub loop-visit-preserved : goal.loop-visit-preserved
loop-visit-preserved g c =
    some_on g.A.Handler.base_of g.A.Handler.responds g.K.Clock.tells (g.A.Handler.sight c.args.handler.now)
    (g.A.Handler.sight c.loop-visit.handler) (g.A.Handler.sight c.serve_one-in-loop-visit.new.handler)
    c.args.clock.now c.loop-visit.clock c.serve_one-in-loop-visit.new.clock c.loop-visit.invariant
    c.serve_one-in-loop-visit.ensures
