use Rattle.std.proofs.Common.{ap, ◌∙◌}
use Rattle.lra_rows.specs.Steps.{without_last}
use Rattle.lra_rows.specs.inner.Asks.{AskList, numbered}
use Rattle.lra_rows.proofs.AskNumbers.{one_less}
use Rattle.lra_rows.proofs.asks.Asks.remove_last.Goals as goal

pub returns-clause-items : goal.returns-clause-items
returns-clause-items c =
    ap (numbered 0) c.remove_last.ensures.items
    ∙ one_less c.self.inside.rows.items
    ∙ ap (λ (a : AskList). without_last a.items) c.self.view_is
