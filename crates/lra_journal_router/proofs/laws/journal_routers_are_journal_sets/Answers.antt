use Rattle.lra_journal_router.proofs.MembershipLemmas.{journal_routers_run, journal_routers_idle}
use Rattle.lra_journal_router.proofs.laws.journal_routers_are_journal_sets.Goals as goal

pub returns-clause-runs : goal.returns-clause-runs
returns-clause-runs g c = journal_routers_run g.H.Membership.tells g.C.Counter.sight g.C.Session.covers
    g.C.Counter.gives
    g.K.Clock.tells

pub returns-clause-rests : goal.returns-clause-rests
returns-clause-rests g c = journal_routers_idle g.H.Membership.tells g.C.Counter.sight g.C.Session.covers
    g.C.Counter.gives
    g.K.Clock.tells
