use Rattle.std.proofs.lemmas.Result.{IfOk-weaker}
use Rattle.lra_service.proofs.Going.{open_at}
use Rattle.lra_service.proofs.running.Service.open.Goals as goal

pub returns-clause-opened : goal.returns-clause-opened
returns-clause-opened g c =
    IfOk-weaker c.open_office.result _ _ (λ x h.
    open_at (g.P.Place.had c.args.self.now.place.now) _ _ _ c.limits_of-limits.result c.args.moment c.args.opening
    (g.K.Write.contents c.args.journal_writer) x.0 x.1 c.in-Ok.ensures c.limits_of-limits.ensures.limits
    c.requires.journal
    h) c.open_office.ensures.opened
