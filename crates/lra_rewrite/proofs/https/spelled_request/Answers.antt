use Rattle.std.proofs.Common.{rules}
use Rattle.serde_json.specs.View.{view}
use Rattle.lra_wire.specs.Request.{request_of}
use Rattle.lra_rewrite.proofs.Others.{none_read, value_read}
use Rattle.lra_rewrite.proofs.Spellings.{join_reads, spelled_unread, spelled_other, spelled_means}
use Rattle.lra_rewrite.proofs.https.spelled_request.Goals as goal

pub returns-in_default-clause-ok : goal.returns-in_default-clause-ok
returns-in_default-clause-ok c =
    spelled_unread c.args.join.now
    (none_read c.args.join.now (join_reads c.args.join.now c.requires)
    (rw c.in_default.is at c.in_ok-value.ensures.ok))

pub returns-then-not-is_object-clause-ok : goal.returns-then-not-is_object-clause-ok
returns-then-not-is_object-clause-ok c =
    spelled_other c.args.join.now (view c.in-Some.value.now)
    (value_read c.args.join.now _ (join_reads c.args.join.now c.requires)
    (rw c.in-Some.is at c.in_ok-value.ensures.ok)).0 (search rules)

pub returns-clause-ok : goal.returns-clause-ok
returns-clause-ok c =
    spelled_means c.args.join.now (request_of c.in_ok-meant.meant.request) (view c.in-Some.value.now)
    (view c.in_ok-spelled.spelled)
    (value_read c.args.join.now _ (join_reads c.args.join.now c.requires)
    (rw c.in-Some.is at c.in_ok-value.ensures.ok)).0 (search rules) c.in_ok-spelled.ensures.put
    c.in_ok-meant.ensures.ok
