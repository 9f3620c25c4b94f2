use Rattle.std.proofs.Common.{rules, sym, ◌∙◌}
use Rattle.lra_steps.proofs.PieceLemmas.{answers_standing}
use Rattle.lra_wire.specs.Request.{request_of}
use Rattle.lra_steps.proofs.serve.answer_request.Goals as goal

pub push_reply-requires-clause-value : goal.push_reply-requires-clause-value
push_reply-requires-clause-value g c =
    c.base.ensures ∙ g.met.A.Handler.stays _ _ c.now-moment.result (request_of c.in-Some.request.now)
    c.respond-answered.result c.respond-answered.ensures.responds ∙ sym c.requires.base

pub returns : goal.returns
returns g c =
    answers_standing g.A.Handler.State g.row.K.Denot g.A.Handler.base_of g.A.Handler.responds g.K.Clock.tells
    c.args.connection.now.stands (request_of c.in-Some.request.now)
    c.respond-answered.result (g.A.Handler.sight c.args.handler.now)
    (g.A.Handler.sight c.respond-answered.new.handler) c.args.clock.now c.now-moment.new.self
    c.args.connection.now c.push_reply.new.self c.now-moment.result c.push_reply.result (search rules)
    c.now-moment.ensures
    c.respond-answered.ensures.responds c.push_reply.ensures
