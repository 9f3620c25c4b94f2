use Rattle.std.proofs.Common.{◌≡◌, rules}
use Rattle.serde_json.specs.Data.{put, Members}
use Rattle.serde_json.specs.Find.{as_object}
use Rattle.serde_json.specs.View.{view}
use Rattle.lra_wire.specs.Request.{request_of}
use Rattle.lra_rewrite.proofs.Others.{made_of}
use Rattle.lra_rewrite.proofs.requests.meant_with.Goals as goal

pub returns-clause-ok : goal.returns-clause-ok
returns-clause-ok c =
    let same : view c.in_ok-copied.copied ≡ view c.args.body.now = search rules in
    made_of c.args.own.now (request_of c.in_ok-meant.meant.request) (as_object (view c.args.body.now))
    (as_object (view c.in_ok-value.value)) (λ (ms : Members). put c.args.key.now (view c.args.member) ms)
    (rw same at c.in_ok-value.ensures.put) c.in_ok-meant.ensures.ok
