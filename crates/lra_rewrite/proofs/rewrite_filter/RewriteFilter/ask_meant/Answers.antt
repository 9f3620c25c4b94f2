use Rattle.std.proofs.Common.{◌≡◌, subst, option_map}
use Rattle.std.specs.Prelude.{IfOk, IsSome, OnErr}
use Rattle.lra_wire.specs.Request.{Request, request_of}
use Rattle.lra_rewrite.specs.Paths.{other_target}
use Rattle.lra_rewrite.specs.inner.Made.{moved}
use Rattle.lra_rewrite.proofs.rewrite_filter.RewriteFilter.ask_meant.Goals as goal

pub ask_moved-requires-clause-ok : goal.ask_moved-requires-clause-ok
ask_moved-requires-clause-ok g c =
    subst (λ (own : Request). IfOk c.moved_request-moved.result (λ other. option_map request_of other
    ≡ moved (g.A.Handler.base_of (g.A.Handler.sight c.args.self.now.inner)) own)) c.request-own.ensures
    (rw c.base-base.ensures at c.moved_request-moved.ensures.ok)

pub ask_moved-requires-clause-err : goal.ask_moved-requires-clause-err
ask_moved-requires-clause-err g c =
    subst (λ (own : Request). OnErr c.moved_request-moved.result
    (IsSome (other_target (g.A.Handler.base_of (g.A.Handler.sight c.args.self.now.inner)) own.target)))
    c.request-own.ensures (rw c.base-base.ensures at c.moved_request-moved.ensures.err)
