use Rattle.lra_courier.proofs.FieldLemmas.{two_more}
use Rattle.lra_courier.proofs.callback.push_content.Goals as goal

-- two fields, one after the other
pub returns-in_ok-push-in-After-2 : goal.returns-in_ok-push-in-After-2
returns-in_ok-push-in-After-2 c = rw c.in-After.is (two_more _ _ _ _ _ c.in_ok-push-in-After.ensures
    c.in_ok-push-in-After-2.ensures)
