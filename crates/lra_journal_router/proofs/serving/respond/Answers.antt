use Rattle.std.proofs.Common.{rules, ap}
use Rattle.lra_journal_router.proofs.Deciding.{memory_serves}
use Rattle.lra_journal_router.proofs.serving.respond.Goals as goal

pub returns-in_default-clause-serves : goal.returns-in_default-clause-serves
returns-in_default-clause-serves g c = memory_serves g.C.Counter.sight g.C.Session.covers g.C.Counter.gives
    c.args.journal_set.now
    (record { request = c.args.request.now; moment = c.args.moment; answered = c.denied.result }) (ap (λ a.
    a.answer) c.denied.ensures) (ap (λ a. a.position) c.denied.ensures) (search rules)
