use Rattle.serde_json.specs.View.{view}
use Rattle.lra_rewrite.proofs.Spellings.{spelled_ok, spelled_none}
use Rattle.lra_rewrite.proofs.https.spelled_under.Goals as goal

pub returns-in-Some-clause-put : goal.returns-in-Some-clause-put
returns-in-Some-clause-put c =
    spelled_ok c.args.key.now (view c.args.value) (view c.from.result) _ c.put_under.result c.from.ensures
    (rw c.in-Some.is at c.in_ok-text.ensures) c.put_under.ensures.put

pub returns-in-None-clause-put : goal.returns-in-None-clause-put
returns-in-None-clause-put c =
    spelled_none c.args.key.now (view c.args.value) (rw c.in-None.is at c.in_ok-text.ensures)
