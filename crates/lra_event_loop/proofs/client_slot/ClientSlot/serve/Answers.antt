use Rattle.lra_event_loop.proofs.Answers.{some_of}
use Rattle.lra_event_loop.proofs.client_slot.ClientSlot.serve.Goals as goal

pub returns-in_err-stage : goal.returns-in_err-stage
returns-in_err-stage g c =
    some_of g.A.Handler.base_of g.A.Handler.responds g.K.Clock.tells _ c.answer.new.self.connection
    (g.A.Handler.sight c.args.handler.now) (g.A.Handler.sight c.answer.new.handler) c.args.clock.now
    c.answer.new.clock
    c.answer.ensures.answered

pub returns : goal.returns
returns g c =
    some_of g.A.Handler.base_of g.A.Handler.responds g.K.Clock.tells _ c.answer.new.self.connection
    (g.A.Handler.sight c.args.handler.now) (g.A.Handler.sight c.answer.new.handler) c.args.clock.now
    c.answer.new.clock
    c.answer.ensures.answered
