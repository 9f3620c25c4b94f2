use Rattle.lra_event_loop.proofs.Answers.{answers_standing}
use Rattle.lra_event_loop.proofs.answering.answer_standing.Goals as goal

pub returns : goal.returns
returns g c =
    answers_standing g.A.Handler.base_of g.A.Handler.responds g.K.Clock.tells g.met.A.Handler.stays
    c.args.connection.now.stands c.answer_request-answered.result (g.A.Handler.sight c.args.handler.now)
    (g.A.Handler.sight c.answer_request-answered.new.handler) c.args.clock.now c.answer_request-answered.new.clock
    c.args.connection.now c.answer_request-answered.new.connection
    c.args.positions.now c.with_answer.result c.requires.stands c.answer_request-answered.ensures c.with_answer.ensures
