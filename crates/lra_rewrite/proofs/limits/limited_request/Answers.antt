use Rattle.std.proofs.Common.{rules}
use Rattle.serde_json.specs.View.{view}
use Rattle.lra_wire.specs.Request.{request_of}
use Rattle.lra_rewrite.proofs.Others.{none_read, value_read}
use Rattle.lra_rewrite.proofs.Starts.{start_reads, unread_limited, given_limited, lacking_limited}
use Rattle.lra_rewrite.proofs.limits.limited_request.Goals as goal

pub returns-in_default-clause-ok : goal.returns-in_default-clause-ok
returns-in_default-clause-ok c =
    unread_limited c.args.limit c.args.start.now
    (none_read c.args.start.now (start_reads c.args.limit c.args.start.now c.requires)
    (rw c.in_default.is at c.in_ok-value.ensures.ok))

pub returns-then-not-lacks_limit-clause-ok : goal.returns-then-not-lacks_limit-clause-ok
returns-then-not-lacks_limit-clause-ok c =
    given_limited c.args.limit c.args.start.now (view c.in-Some.value.now)
    (value_read c.args.start.now _ (start_reads c.args.limit c.args.start.now c.requires)
    (rw c.in-Some.is at c.in_ok-value.ensures.ok)).0 (search rules)

pub returns-clause-ok : goal.returns-clause-ok
returns-clause-ok c =
    lacking_limited c.args.limit c.args.start.now (request_of c.in_ok-meant.meant.request)
    (view c.in-Some.value.now) (view c.from.result)
    (value_read c.args.start.now _ (start_reads c.args.limit c.args.start.now c.requires)
    (rw c.in-Some.is at c.in_ok-value.ensures.ok)).0 (search rules) c.from.ensures c.in_ok-meant.ensures.ok
