use Rattle.std.proofs.Common.{sym, ap, ◌∙◌}
use Rattle.lra_commands.specs.Queries.{answer_as}
use Rattle.lra_core.proofs.Numbers.{stands}
use Rattle.lra_core.proofs.Questions.{stranger_answered, clerk_answered}
use Rattle.lra_core.proofs.coordinator.CoordinatorOf.ask.Goals as goal

pub returns-then-not-is_clerk : goal.returns-then-not-is_clerk
returns-then-not-is_clerk g c = λ call same asks.
    let s = c.self.inside.terms in
    let J = g.P.HistoryStore.history c.self.inside.past in
    let k = stands s c.self.inside.tables c.self.inside.schedule J c.self.invariant in
    rw (← c.self.view_is) (stranger_answered s J call c.args.query c.args.by asks same
    (sym (c.is_clerk.ensures J k) ∙ c.if-not-is_clerk.true))

pub returns : goal.returns
returns g c = λ call same asks.
    let s = c.self.inside.terms in
    let J = g.P.HistoryStore.history c.self.inside.past in
    let k = stands s c.self.inside.tables c.self.inside.schedule J c.self.invariant in
    c.answer_as.ensures ∙ ap answer_as c.query.ensures ∙ rw (← c.self.view_is)
    (clerk_answered s J call c.args.query c.args.by asks same (sym (c.is_clerk.ensures J k)
    ∙ c.if-not-is_clerk.false))
