use Rattle.std.proofs.Common.{sym, ap, ◌∙◌, vec_capacity}
use Rattle.lra_rows.specs.Rowed.{takes_one}
use Rattle.lra_rows.specs.inner.Asks.{AskList}
use Rattle.lra_rows.proofs.AskNumbers.{takes_numbered}
use Rattle.lra_rows.proofs.asks.Asks.take_one.Goals as goal

pub returns : goal.returns
returns c =
    c.takes_one.ensures
    ∙ sym (takes_numbered c.self.inside.rows.items (vec_capacity c.self.inside.rows))
    ∙ ap (λ (a : AskList). takes_one a.items a.capacity) c.self.view_is
