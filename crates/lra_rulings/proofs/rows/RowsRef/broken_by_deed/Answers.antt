use Rattle.lra_rulings.proofs.rows.RowsRef.broken_by_deed.Goals as goal

pub returns-in-Start : goal.returns-in-Start
returns-in-Start c = rw c.in-Start.is (c.broken_by_start.ensures c.args.version)

pub returns-in_ok-broken_by_join-in-Join : goal.returns-in_ok-broken_by_join-in-Join
returns-in_ok-broken_by_join-in-Join c = rw c.in-Join.is (c.in_ok-broken_by_join-in-Join.ensures c.args.version
    c.args.moment)
