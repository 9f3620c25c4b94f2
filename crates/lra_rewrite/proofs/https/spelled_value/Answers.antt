use Rattle.std.proofs.Common.{◌≡◌, rules}
use Rattle.serde_json.specs.Find.{as_object}
use Rattle.serde_json.specs.View.{view}
use Rattle.lra_rewrite.proofs.Spellings.{spelled_all}
use Rattle.lra_rewrite.proofs.https.spelled_value.Goals as goal

pub returns-clause-put : goal.returns-clause-put
returns-clause-put c =
    let same : view c.in_ok-copied.copied ≡ view c.args.value.now = search rules in
    spelled_all (as_object (view c.args.value.now)) (as_object (view c.in_ok-compensate.compensate))
    (as_object (view c.in_ok-complete.complete)) (as_object (view c.in_ok-status.status))
    (as_object (view c.in_ok-forget.forget)) (as_object (view c.in_ok-after.after))
    (rw same at c.in_ok-compensate.ensures.put) c.in_ok-complete.ensures.put c.in_ok-status.ensures.put
    c.in_ok-forget.ensures.put c.in_ok-after.ensures.put
