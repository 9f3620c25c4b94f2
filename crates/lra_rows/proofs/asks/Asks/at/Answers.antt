use Rattle.std.proofs.Common.{Some, None, ap, ◌∙◌}
use Rattle.lra_laws.specs.Rows.{row_at}
use Rattle.lra_rows.specs.inner.Asks.{AskList}
use Rattle.lra_rows.proofs.AskNumbers.{read_at}
use Rattle.lra_rows.proofs.asks.Asks.at.Goals as goal

pub returns-in-Some : goal.returns-in-Some
returns-in-Some c =
    read_at c.self.inside.rows.items c.args.number (Some c.in-Some.row) (rw c.deref.ensures.value at c.in-Some.ensures)
    ∙ ap (λ (a : AskList). row_at a.items c.args.number) c.self.view_is

pub returns-in-None : goal.returns-in-None
returns-in-None c =
    read_at c.self.inside.rows.items c.args.number None (rw c.deref.ensures.value at c.in-None.ensures)
    ∙ ap (λ (a : AskList). row_at a.items c.args.number) c.self.view_is
