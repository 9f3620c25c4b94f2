use Rattle.std.proofs.Common.{subst}
use Rattle.lra_wire.specs.Request.{Request}
use Rattle.lra_rewrite.specs.inner.Asks.{AsksMoved}
use Rattle.lra_rewrite.proofs.rewrite_filter.RewriteFilter.ask_own.Goals as goal

pub returns-clause-asks : goal.returns-clause-asks
returns-clause-asks g c =
    subst (λ (own : Request). AsksMoved g.A.Handler.base_of g.A.Handler.responds
    (g.A.Handler.sight c.args.self.now.inner) c.args.self.now.olders.items c.args.moment own
    c.ask_meant-answered.result (g.A.Handler.sight c.ask_meant-answered.new.self.inner)) c.with.ensures
    c.ask_meant-answered.ensures.asks
