use Rattle.lra_operators.proofs.Replying.{two_more}
use Rattle.lra_operators.proofs.reply.add_page_fields.Goals as goal

pub returns-in-Page-clause-fields : goal.returns-in-Page-clause-fields
returns-in-Page-clause-fields c =
    rw c.in-Page.is (two_more _ _ _ _ _ c.push_reserved.ensures.items c.push_reserved-in-Page.ensures.items)
