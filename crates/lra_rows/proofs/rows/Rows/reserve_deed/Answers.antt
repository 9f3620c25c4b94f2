use Rattle.std.proofs.lemmas.Result.{on_ok_weaker}
use Rattle.lra_rows.proofs.rows.Rows.reserve_deed.Goals as goal

pub returns-in-Start-clause-ok : goal.returns-in-Start-clause-ok
returns-in-Start-clause-ok c = on_ok_weaker c.reserve_start.result (λ h. rw c.in-Start.is
    (h c.in-Start.action c.in-Start.limit)) c.reserve_start.ensures.ok

pub returns-in-Join-clause-ok : goal.returns-in-Join-clause-ok
returns-in-Join-clause-ok c = on_ok_weaker c.reserve_join.result (λ h. rw c.in-Join.is
    (h c.in-Join.member c.in-Join.uris)) c.reserve_join.ensures.ok

pub returns-in-Ask-clause-ok : goal.returns-in-Ask-clause-ok
returns-in-Ask-clause-ok c = on_ok_weaker c.reserve_ask.result (λ h. rw c.in-Ask.is (h c.in-Ask.ask c.in-Ask.kind))
    c.reserve_ask.ensures.ok
