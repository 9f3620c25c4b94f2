use Rattle.lra_journal_router.specs.inner.Stays.{covered_at}
use Rattle.lra_journal_router.proofs.serving.TimedRequestVisit.visit.Goals as goal

pub returns : goal.returns
returns g c =
    let a = c.respond.ensures.responds in (
      (
        a.ordered,
        covered_at g.C.Counter.sight g.C.Session.covers g.C.Counter.gives c.respond.new.self
            c.respond.result.position a.covered,
      ),
      c.respond.ensures.identifiers,
    )
