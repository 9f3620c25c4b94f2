use Rattle.lra_wire.specs.Request.{Request}
use Rattle.lra_front.specs.Routes.{operation_of}
use Rattle.lra_rewrite.specs.Bodies.{IsRead}
use Rattle.lra_rewrite.specs.inner.Made.{MeansOther}
use Rattle.lra_rewrite.proofs.Asking.{asked}
use Rattle.lra_rewrite.proofs.rewrite_filter.RewriteFilter.ask_other.Goals as goal

pub returns-clause-asks : goal.returns-clause-asks
returns-clause-asks g c =
    let own : Request = c.args.request.now in
    let told =
    asked g.A.Handler.responds (MeansOther c.as_str-base.result.now c.as_slice.result.now own)
    (IsRead c.as_slice.result.now (operation_of own.method own.target) own.body)
    (g.A.Handler.sight c.args.self.now.inner) c.args.moment own c.other_request-meant.result c.ask.result
    (g.A.Handler.sight c.ask.new.inner) c.other_request-meant.ensures.ok c.other_request-meant.ensures.err
    c.ask.ensures.asks in
    rw (c.as_str-base.ensures, c.base.ensures, c.as_slice.ensures.value) at told
