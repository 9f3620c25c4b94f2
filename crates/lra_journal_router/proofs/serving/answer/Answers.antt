use Rattle.std.proofs.Common.{rules}
use Rattle.lra_journal_router.proofs.Deciding.{newest_serves, newest_answers}
use Rattle.lra_journal_router.proofs.serving.answer.Goals as goal

pub unreachable-requires : goal.unreachable-requires
unreachable-requires g c =
    newest_answers g.C.Counter.sight g.C.Session.covers g.C.Counter.gives c.args.journal_set.now c.visit.new.journal_set
    c.visit-in-None.new.journal_set
    c.args.responding.now.moment c.args.responding.now.request.now
    c.args.instance c.args.newest c.visit.result c.visit-in-None.result c.requires.journal_set c.requires.newest
    c.in-None.is c.visit.ensures c.in-None-visit.is c.visit-in-None.ensures

pub returns-in-Some-visit-clause-serves : goal.returns-in-Some-visit-clause-serves
returns-in-Some-visit-clause-serves g c =
    newest_serves g.C.Counter.sight g.C.Session.covers g.C.Counter.gives c.args.journal_set.now c.visit.new.journal_set
    c.visit-in-None.new.journal_set
    (record {
      request = c.args.responding.now.request.now;
      moment = c.args.responding.now.moment;
      answered
          = c.in-Some-visit.answered;
    })
    c.args.instance c.args.newest c.visit.result c.visit-in-None.result c.requires.newest (search rules)
    c.requires.instance
    c.in-None.is c.visit.ensures c.in-Some-visit.is c.visit-in-None.ensures
