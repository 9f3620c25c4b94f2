use Rattle.std.proofs.Common.{◌∙◌}
use Rattle.serde_json.specs.View.{view}
use Rattle.lra_journal_router.proofs.Parents.{held_parent, no_parent}
use Rattle.lra_journal_router.proofs.naming.parent_in.Goals as goal

pub returns-in-Ok-Some : goal.returns-in-Ok-Some
returns-in-Ok-Some c =
    c.parent_under.ensures ∙ held_parent _ c.args.request.now.body (view c.in-Ok-Some.body.now) c.requires
    (rw c.in-Ok-Some.field-0-is at c.in-Ok-Some.ensures.ok)

pub returns-in-Ok-None : goal.returns-in-Ok-None
returns-in-Ok-None c = no_parent _ c.args.request.now.body c.requires
    (rw c.in-Ok-None.field-0-is at c.in-Ok-None.ensures.ok)
