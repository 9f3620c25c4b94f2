use Rattle.std.proofs.Common.{sym, ◌∙◌, vec_capacity}
use Rattle.std.proofs.lemmas.Result.{on_ok_weaker}
use Rattle.lra_rows.proofs.AskNumbers.{takes_numbered}
use Rattle.lra_rows.proofs.asks.Asks.reserve_one.Goals as goal

pub returns-clause-ok : goal.returns-clause-ok
returns-clause-ok c = on_ok_weaker c.reserve_one.result (λ h. takes_numbered c.reserve_one.new.rows.items
    (vec_capacity c.reserve_one.new.rows) ∙ h) c.reserve_one.ensures.ok

pub returns-clause-kept : goal.returns-clause-kept
returns-clause-kept c = λ h.
    takes_numbered c.reserve_one.new.rows.items (vec_capacity c.reserve_one.new.rows)
    ∙ c.reserve_one.ensures.kept (sym (takes_numbered c.self.inside.rows.items (vec_capacity c.self.inside.rows))
    ∙ (rw (← c.self.view_is) at h))
