use Rattle.lra_journal_router.proofs.MembershipLemmas.{moved_join, keeps_join}
use Rattle.lra_journal_router.proofs.journal_router.add_member.Goals as goal

pub returns-in-Ok-clause-moved : goal.returns-in-Ok-clause-moved
returns-in-Ok-clause-moved g c = moved_join c.args.journal_set.now c.rotate.new.self (g.C.Counter.sight c.args.counter)
    c.in-Ok.ensures.ok

pub returns-in-Ok-clause-base : goal.returns-in-Ok-clause-base
returns-in-Ok-clause-base g c = keeps_join c.args.journal_set.now c.rotate.new.self (g.C.Counter.sight c.args.counter)
    c.in-Ok.ensures.ok (c.is_in_set.ensures c.if-not-is_in_set.false)
