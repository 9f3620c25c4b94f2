use Rattle.std.proofs.Common.{subst}
use Rattle.lra_wire.specs.Request.{Request}
use Rattle.lra_steps.proofs.serve.respond.Goals as goal

pub returns-clause-responds : goal.returns-clause-responds
returns-clause-responds g c =
    subst (λ (r : Request). g.A.Handler.responds (g.A.Handler.sight c.args.handler.now) c.args.moment r
    c.respond-answered.result (g.A.Handler.sight c.respond-answered.new.self)) c.new-routed.ensures
    c.respond-answered.ensures.responds
