use Rattle.std.proofs.Common.{rules}
use Rattle.serde_json.specs.View.{view}
use Rattle.lra_wire.specs.Request.{request_of}
use Rattle.lra_rewrite.specs.Requests.{MeansParts}
use Rattle.lra_rewrite.proofs.Others.{itself, none_read, value_read, empty_other, unread_other, other_none, other_some}
use Rattle.lra_rewrite.proofs.bodies.other_at.Goals as goal

pub returns-then-is_empty-clause-ok : goal.returns-then-is_empty-clause-ok
returns-then-is_empty-clause-ok c =
    itself c.args.request.now _ (empty_other c.args.base.now c.args.olders.now c.args.key.now c.args.request.now.body
    (search rules))

pub returns-in_default-clause-ok : goal.returns-in_default-clause-ok
returns-in_default-clause-ok c =
    itself c.args.request.now _ (unread_other c.args.base.now c.args.olders.now c.args.key.now c.args.request.now.body
    (none_read c.args.request.now c.requires (rw c.in_default.is at c.in_ok-value.ensures.ok)))

pub returns-in_ok-meant_with-in-Some-2-clause-ok : goal.returns-in_ok-meant_with-in-Some-2-clause-ok
returns-in_ok-meant_with-in-Some-2-clause-ok c =
    other_some c.args.base.now c.args.olders.now c.args.key.now c.args.request.now.body (view c.in-Some.value.now) _ _
    (λ o. MeansParts c.args.request.now.target o c.args.request.now
    (request_of c.in_ok-meant_with-in-Some-2.field-0.request))
    (value_read c.args.request.now _ c.requires (rw c.in-Some.is at c.in_ok-value.ensures.ok)).0 (search rules)
    (rw c.in-Some-2.is at c.in_ok-text.ensures) c.in_ok-meant_with-in-Some-2.ensures.ok

pub returns-in-None-clause-ok : goal.returns-in-None-clause-ok
returns-in-None-clause-ok c =
    itself c.args.request.now _ (other_none c.args.base.now c.args.olders.now c.args.key.now
    c.args.request.now.body (view c.in-Some.value.now)
    (value_read c.args.request.now _ c.requires (rw c.in-Some.is at c.in_ok-value.ensures.ok)).0
    (rw c.in-None.is at c.in_ok-text.ensures))
