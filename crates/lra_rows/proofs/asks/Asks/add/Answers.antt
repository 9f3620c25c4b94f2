use Rattle.std.proofs.Common.{◌∷◌, ◌++◌, [], sym, ap, ◌∙◌, vec_capacity}
use Rattle.lra_model.specs.Members.{Asked}
use Rattle.lra_rows.specs.inner.Asks.{AskList, numbered}
use Rattle.lra_rows.proofs.AskNumbers.{one_more, takes_numbered}
use Rattle.lra_rows.proofs.asks.Asks.add.Goals as goal

pub add-requires : goal.add-requires
add-requires c = sym (takes_numbered c.self.inside.rows.items (vec_capacity c.self.inside.rows))
    ∙ (rw (← c.self.view_is) at c.requires.room)

pub returns-clause-items : goal.returns-clause-items
returns-clause-items c =
    ap (numbered 0) c.add.ensures.items
    ∙ one_more c.self.inside.rows.items _ c.asked.inside.number (rw (← c.asked.view_is, ← c.self.view_is) at
    c.requires.next)
    ∙ ap (λ (x : Asked). numbered 0 c.self.inside.rows.items ++ x ∷ []) c.asked.view_is
    ∙ ap (λ (a : AskList). a.items ++ c.args.asked ∷ []) c.self.view_is
