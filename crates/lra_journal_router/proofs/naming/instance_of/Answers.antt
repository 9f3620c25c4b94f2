use Rattle.std.proofs.Common.{ap, ◌∙◌}
use Rattle.std.proofs.lemmas.Result.{IfOk-weaker}
use Rattle.lra_journal_router.specs.Naming.{named_by, instance_of}
use Rattle.lra_journal_router.proofs.naming.instance_of.Goals as goal

pub returns-in-Ok-clause-ok : goal.returns-in-Ok-clause-ok
unfolding instance_of
returns-in-Ok-clause-ok c =
    IfOk-weaker c.named_at.result _ _ (λ named is. is ∙ ap (named_by c.args.request.now) c.in-Ok.ensures)
    c.named_at.ensures.ok

pub returns-in-Err-clause-ok : goal.returns-in-Err-clause-ok
unfolding instance_of
returns-in-Err-clause-ok c = ap (named_by c.args.request.now) c.in-Err.ensures
