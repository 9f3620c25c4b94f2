use Rattle.std.proofs.Common.{subst}
use Rattle.lra_wire.specs.Request.{Request}
use Rattle.lra_front.specs.Serving.{Orders}
use Rattle.lra_front.proofs.route.Routes.respond.Goals as goal

pub returns-clause-responds : goal.returns-clause-responds
returns-clause-responds g c =
    let told =
    subst (λ (r : Request). Orders g.C.Counter.gives (g.C.Counter.sight c.args.counter.now) c.args.moment r
    (g.C.Counter.sight c.respond_ordered-answer.new.counter) c.respond_ordered-answer.result.0
    c.respond_ordered-answer.result.1) c.new-routed.ensures c.respond_ordered-answer.ensures.orders in
    (told.0, told.1, told.2)
