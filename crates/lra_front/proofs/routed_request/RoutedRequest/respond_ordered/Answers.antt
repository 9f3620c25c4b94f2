use Rattle.lra_front.proofs.TimedRequest.{answerable}
use Rattle.lra_front.proofs.routed_request.RoutedRequest.respond_ordered.Goals as goal

pub answer-requires : goal.answer-requires
answer-requires g c =
    answerable (g.C.Counter.sight c.args.counter.now) (g.C.Counter.sight c.give-reply.new.self) c.args.moment
    c.args.self.now c.order.result c.in-Ok.api_request c.give-reply.result
    (rw (← c.instance.ensures, ← c.base.ensures) c.in-Ok.ensures) c.order.ensures
    (g.met.C.Counter.keeps _ _ _ _ _ c.give-reply.ensures)
