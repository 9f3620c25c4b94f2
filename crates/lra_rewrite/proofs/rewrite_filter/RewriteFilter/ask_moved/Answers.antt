use Rattle.std.proofs.Common.{Some, ap, ◌∙◌}
use Rattle.lra_rewrite.proofs.Asking.{asked_moved, asked_unmoved}
use Rattle.lra_rewrite.proofs.rewrite_filter.RewriteFilter.ask_moved.Goals as goal

pub returns-in-Ok-Some-clause-asks : goal.returns-in-Ok-Some-clause-asks
returns-in-Ok-Some-clause-asks g c =
    asked_moved g.A.Handler.base_of g.A.Handler.responds (g.A.Handler.sight c.args.self.now.inner)
    c.args.self.now.olders.items c.args.moment c.args.request.now c.ask_other-answered.result
    (g.A.Handler.sight c.ask_other-answered.new.self.inner) c.with.result
    (ap Some c.with.ensures ∙ (rw (c.in-Ok-Some.is, c.in-Ok-Some.field-0-is) at c.requires.ok))
    c.ask_other-answered.ensures.asks

pub returns-in-Ok-None-clause-asks : goal.returns-in-Ok-None-clause-asks
returns-in-Ok-None-clause-asks g c =
    asked_unmoved g.A.Handler.base_of g.A.Handler.responds (g.A.Handler.sight c.args.self.now.inner)
    c.args.self.now.olders.items c.args.moment c.args.request.now c.ask_other-in-Ok-None.result
    (g.A.Handler.sight c.ask_other-in-Ok-None.new.self.inner)
    (rw (c.in-Ok-None.is, c.in-Ok-None.field-0-is) at c.requires.ok) c.ask_other-in-Ok-None.ensures.asks
