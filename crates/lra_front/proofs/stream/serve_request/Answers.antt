use Rattle.std.proofs.Common.{sym, subst, ◌∙◌, Option}
use Rattle.lra_wire.specs.declared.request.RequestRead.{RequestRead}
use Rattle.lra_wire.specs.Inbox.{stream_of}
use Rattle.lra_wire.specs.Request.{request_of, GivesRequest}
use Rattle.lra_wire.specs.Streams.{IfBothKnown}
use Rattle.lra_front.proofs.Streaming.{exchanged, cut_ends}
use Rattle.lra_front.proofs.stream.serve_request.Goals as goal

pub returns-in-Ok-Some-clause-serves : goal.returns-in-Ok-Some-clause-serves
returns-in-Ok-Some-clause-serves g c fresh =
    let P : Option RequestRead → Type 0 =
    λ read. IfBothKnown (stream_of g.R.Read.remaining c.args.inbox.now)
    (stream_of g.R.Read.remaining c.read_request.new.inbox) (GivesRequest read) in
    exchanged g.C.Counter.gives g.K.Clock.tells c.args.last (request_of c.in-Ok-Some.request)
    (stream_of g.R.Read.remaining c.args.inbox.now) (stream_of g.R.Read.remaining c.read_request.new.inbox)
    (g.C.Counter.sight c.args.counter.now) (g.C.Counter.sight c.exchange.new.counter) c.args.clock.now
    c.exchange.new.clock
    (g.W.Write.contents c.args.writer.now) (g.W.Write.contents c.exchange.new.writer) c.exchange.result
    (subst P c.in-Ok-Some.field-0-is (c.in-Ok-Some.ensures.found fresh)) c.exchange.ensures

pub returns-in-Err-clause-spent : goal.returns-in-Err-clause-spent
returns-in-Err-clause-spent g c spent =
    cut_ends (g.C.Counter.sight c.args.counter.now) _ _ c.refuse.result c.in-Err.fault
    (sym c.in-Err.is ∙ c.read_request.ensures.spent spent) c.refuse.ensures
