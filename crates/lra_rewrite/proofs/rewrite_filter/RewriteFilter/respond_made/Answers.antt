use Rattle.std.proofs.Common.{refl, subst, is_some}
use Rattle.lra_rewrite.specs.Serving.{served}
use Rattle.lra_rewrite.specs.declared.dialect.Translated.{Translated}
use Rattle.lra_rewrite.specs.inner.Translated.{IsTranslated}
use Rattle.lra_rewrite.proofs.Translating.{told_own, told_refusal}
use Rattle.lra_rewrite.proofs.rewrite_filter.RewriteFilter.respond_made.Goals as goal

pub returns-in-Own-clause-does : goal.returns-in-Own-clause-does
returns-in-Own-clause-does g c =
    let before = c.args.self.now in
    let base = g.A.Handler.base_of (g.A.Handler.sight before.inner) in
    let made = subst (λ (m : Translated). IsTranslated base before.is_strict c.args.request.now m) c.in-Own.is
    c.requires in
    told_own g.A.Handler.base_of g.A.Handler.responds
    (served (g.A.Handler.sight before.inner) before.olders.items before.is_strict (is_some before.dialect))
    c.args.moment c.args.request.now c.told_in.result (g.A.Handler.sight c.ask_own-answered.new.self.inner) _ _
    c.ask_own-answered.result made.0 made.1 c.ask_own-answered.ensures.asks c.told_in.ensures.instance
    c.told_in.ensures.answer c.told_in.ensures.position

pub returns-in-Refused-clause-does : goal.returns-in-Refused-clause-does
returns-in-Refused-clause-does g c =
    let before = c.args.self.now in
    let base = g.A.Handler.base_of (g.A.Handler.sight before.inner) in
    let made = subst (λ (m : Translated). IsTranslated base before.is_strict c.args.request.now m) c.in-Refused.is
    c.requires in
    told_refusal g.A.Handler.base_of g.A.Handler.responds
    (served (g.A.Handler.sight before.inner) before.olders.items before.is_strict (is_some before.dialect))
    c.args.moment c.args.request.now c.turned_away.result (g.A.Handler.sight before.inner) _ made
    c.turned_away.ensures.answer c.turned_away.ensures.position refl
