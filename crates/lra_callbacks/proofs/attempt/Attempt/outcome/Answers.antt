use Rattle.std.proofs.Common.{sym, subst}
use Rattle.std.specs.Prelude.{IfSome}
use Rattle.lra_model.specs.declared.asks.Outcome.{Outcome}
use Rattle.lra_callbacks.specs.Outcomes.{MayCome}
use Rattle.lra_callbacks.proofs.ResponseParse.{outcome_comes}
use Rattle.lra_callbacks.proofs.attempt.Attempt.outcome.Goals as goal

pub returns-clause-may : goal.returns-clause-may
returns-clause-may g c =
    let keeps = g.G.SyncGroup.keeps c.args.self.now.instance in
    subst (λ (o : Outcome). IfSome c.args.self.now.errand (λ h. MayCome keeps h.1 h.0.ask h.0.kind o))
    (sym c.unwrap_or.ensures)
    (outcome_comes keeps c.in-Some.flight.kept c.in-Some.flight.callback_exchange c.args.self.now.errand
    c.outcome.result
    (c.args.self.now.leave c.in-Some.flight c.in-Some.is)
    (c.args.self.now.own c.in-Some.flight c.in-Some.is) c.carried.ensures c.outcome.ensures.comes
    c.outcome.ensures.suits)
