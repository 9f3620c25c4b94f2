use Rattle.std.proofs.Common.{ap, ◌∙◌}
use Rattle.lra_rows.specs.Steps.{repeats_back}
use Rattle.lra_rows.specs.inner.Reached.{Reachable, endpoints_in, ready_in}
use Rattle.lra_rows.proofs.Reaching.{contacts_back, ready_back}
use Rattle.lra_rows.proofs.endpoints.Endpoints.restore.Goals as goal

pub returns-clause-items : goal.returns-clause-items
returns-clause-items c = ap endpoints_in c.restore.ensures.items ∙ contacts_back c.args.repeated
    c.self.inside.rows.items
    ∙ ap (λ (r : Reachable). repeats_back c.args.repeated r.ready r.items) c.self.view_is

pub returns-clause-ready : goal.returns-clause-ready
returns-clause-ready c = ap ready_in c.restore.ensures.items ∙ ready_back c.args.repeated c.self.inside.rows.items
    ∙ ap (λ (r : Reachable). r.ready) c.self.view_is
