use Rattle.std.proofs.Common.{refl}
use Rattle.std.specs.Prelude.{IsTrue}
use Rattle.lra_wire.specs.Request.{Request}
use Rattle.lra_rewrite.specs.Settling.{MeansSettled, may_differ}
use Rattle.lra_rewrite.proofs.Asking.{asked}
use Rattle.lra_rewrite.proofs.body_filter.BodyFilterHandler.respond.Goals as goal

pub returns-clause-responds : goal.returns-clause-responds
returns-clause-responds g c =
    let own : Request = c.args.request.now in
    let before = c.args.self.now in
    record {
      limit = refl;
      is_proxied = refl;
      inner =
          asked g.A.Handler.responds (MeansSettled before.limit before.is_proxied own)
          (IsTrue (may_differ before.limit before.is_proxied own)) (g.A.Handler.sight before.inner) c.args.moment
          c.args.request.now c.settled_request-meant.result c.ask.result (g.A.Handler.sight c.ask.new.inner)
          c.settled_request-meant.ensures.ok c.settled_request-meant.ensures.err c.ask.ensures.asks;
    }
