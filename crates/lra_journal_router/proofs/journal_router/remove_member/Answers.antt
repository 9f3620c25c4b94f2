use Rattle.lra_journal_router.proofs.MembershipLemmas.{retired_moved}
use Rattle.lra_journal_router.proofs.journal_router.remove_member.Goals as goal

pub returns-clause-moved : goal.returns-clause-moved
returns-clause-moved g c =
    (retired_moved g.C.Counter.sight c.args.instance c.retire.result c.args.journal_set.now c.retire.new.self
    c.retire.ensures.some c.retire.ensures.none).0

pub returns-clause-base : goal.returns-clause-base
returns-clause-base g c =
    (retired_moved g.C.Counter.sight c.args.instance c.retire.result c.args.journal_set.now c.retire.new.self
    c.retire.ensures.some c.retire.ensures.none).1
